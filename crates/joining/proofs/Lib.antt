pub mod Prefixes
pub mod Runs
pub mod Gathers
pub mod Empties
pub mod Joins
