pub mod Fnv
pub mod Parts
