pub mod Betweens
pub mod Crossing
pub mod Liking
