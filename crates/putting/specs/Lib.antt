pub mod Put
pub mod Split
