pub mod Le
pub mod Moves
pub mod Codes
pub mod Big
pub mod Folds
pub mod Zeros
