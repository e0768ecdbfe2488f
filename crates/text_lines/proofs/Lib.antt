pub mod Ending
pub mod Words
pub mod Marks
pub mod Bytewise
