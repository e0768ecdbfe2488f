pub mod Lowers
pub mod Removes
