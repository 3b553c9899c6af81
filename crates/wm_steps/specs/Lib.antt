pub mod Moves
pub mod Values
