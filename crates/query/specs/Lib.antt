pub mod Asked
pub mod Spots
pub mod Cursors
