pub mod Bytes
pub mod Orders
pub mod Firsts
pub mod Folds
pub mod Zeros
pub mod Settled
