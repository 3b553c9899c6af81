pub mod Grew
pub mod Reverting
