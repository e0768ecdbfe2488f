-- The three demands, proved of the tables.
pub mod Settled
pub mod Modes
pub mod Kept
pub mod Unchecked
pub mod Order
pub mod Same
pub mod Plan
pub mod KeptPages
pub mod Afresh
pub mod Given
pub mod Said
pub mod Meaning
pub mod Whole
pub mod Choice
pub mod Spellings
