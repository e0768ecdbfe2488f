pub mod Rules
pub mod Leads
pub mod Table
pub mod Marks
pub mod Shared
