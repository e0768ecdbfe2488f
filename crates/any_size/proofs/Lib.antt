pub mod Rows
pub mod Calls
pub mod Histories
pub mod Whole
