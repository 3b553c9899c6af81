pub mod Leasts
pub mod Rests
