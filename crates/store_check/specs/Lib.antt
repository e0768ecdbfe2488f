pub mod First
pub mod Heaps
pub mod Directory
pub mod Begun
pub mod Digest
pub mod Said
