pub mod Page
pub mod Found
pub mod Steps
pub mod Packed
pub mod Places
