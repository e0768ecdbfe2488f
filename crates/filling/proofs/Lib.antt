pub mod Alike
pub mod OldRules
pub mod Written
pub mod Laws
