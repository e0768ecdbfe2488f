pub mod Fields
pub mod Inspecting
pub mod Leaving
pub mod OneCommand
pub mod Reporting
pub mod OneReport
pub mod Running
pub mod OneRun
