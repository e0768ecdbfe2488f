pub mod Ends
pub mod LineText
pub mod Reading
