pub mod Drawn
pub mod Turned
