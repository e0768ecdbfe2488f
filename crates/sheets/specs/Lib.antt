pub mod Files
pub mod Laying
