pub mod Drawn
pub mod Seen
