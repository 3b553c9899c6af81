pub mod Levels
pub mod Variants
