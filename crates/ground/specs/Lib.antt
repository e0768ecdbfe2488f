pub mod Ladder
pub mod Says
pub mod Lists
