-- Every table has a result.
pub mod Decisions
pub mod Decided
pub mod Answered
pub mod Encoded
pub mod Together
pub mod Fitted
pub mod PageBytes
pub mod Assembled
pub mod Total
