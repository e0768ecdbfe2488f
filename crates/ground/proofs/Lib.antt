pub mod Sides
pub mod Tests
pub mod Ladders
pub mod Tables
pub mod Parts
