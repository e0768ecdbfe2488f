pub mod Adds
pub mod Deepest
pub mod Raises
