pub mod PlaceWords
pub mod Batch
