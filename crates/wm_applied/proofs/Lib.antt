pub mod FirstParts
pub mod Levels
