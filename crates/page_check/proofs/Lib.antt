pub mod Table
pub mod Walked
pub mod Firsts
pub mod Sweep
pub mod Whole
pub mod Marks
pub mod Prefixes
pub mod Lent
