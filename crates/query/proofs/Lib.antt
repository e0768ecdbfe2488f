pub mod Settled
pub mod Finds
