-- The rules of an accepted store, what its directory says, and the way from bytes to an accepted store.
pub mod Rules
pub mod Unique
pub mod Format
pub mod Owner
pub mod Named
pub mod Spelled
pub mod Accepting
pub mod Reading
pub mod OwnSize
