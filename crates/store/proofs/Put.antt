-- What a put leaves.
pub mod Written
pub mod EveryStep
pub mod PutShows
pub mod PutCases
pub mod PutKept
pub mod Over
pub mod OverShows
pub mod OverKept
pub mod PutRows
pub mod Chosen
