pub mod Promises
pub mod Programs
pub mod Worked
