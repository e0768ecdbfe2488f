pub mod Known
pub mod Obeys
pub mod Reports
pub mod Runs
pub mod Sessions
