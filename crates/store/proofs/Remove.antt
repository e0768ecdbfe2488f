-- What a remove leaves.
pub mod Fewer
pub mod RemoveShows
pub mod RemoveCases
pub mod MoveRows
pub mod Rejoined
