pub mod Remove
