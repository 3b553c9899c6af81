pub mod Ink
pub mod Seen
