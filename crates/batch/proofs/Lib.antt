pub mod Sums
pub mod Signs
pub mod Chains
pub mod Settled
pub mod Histories
pub mod OwnSize
pub mod EndToEnd
pub mod Answered
