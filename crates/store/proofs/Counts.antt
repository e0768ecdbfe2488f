-- The counts in page 0.
pub mod Ones
pub mod Words
pub mod Counted
