pub mod Draws
pub mod Seen
