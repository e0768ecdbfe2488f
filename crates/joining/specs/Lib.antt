pub mod Prefix
pub mod Join
