pub mod Texts
pub mod Numbers
pub mod Codes
pub mod Lines
pub mod Answers
pub mod SheetLines
pub mod Sums
