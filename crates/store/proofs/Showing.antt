-- Pages that show rows: a page for each bucket worked out afresh.
pub mod Shows
pub mod Shown
pub mod BucketOf
pub mod Known
pub mod Within
pub mod Rooms
pub mod Holder
pub mod Sorted
pub mod Showing
pub mod Walked
