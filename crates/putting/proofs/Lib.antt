pub mod Puts
pub mod NewBuckets
pub mod Weighs
pub mod Counting
pub mod Appends
pub mod Renames
pub mod Splits
pub mod Heavy
