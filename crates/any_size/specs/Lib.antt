pub mod OwnSizes
