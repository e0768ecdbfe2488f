pub mod Promises
pub mod Runs
pub mod Programs
pub mod OneBucket
pub mod Turned
pub mod Exists
pub mod Worked
