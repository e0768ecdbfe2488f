pub mod Bits
pub mod Partition
pub mod Sizes
pub mod Listing
pub mod Cases
