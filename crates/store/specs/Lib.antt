pub mod Pages
pub mod Counts
pub mod Accepted
pub mod Moves
pub mod Tables
pub mod Demands
pub mod Choice
pub mod Spellings
