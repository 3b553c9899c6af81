pub mod Draws
pub mod Stores
