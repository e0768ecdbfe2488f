pub mod Behind
pub mod Breaks
pub mod Added
pub mod Read
pub mod Answered
pub mod Told
