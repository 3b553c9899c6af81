pub mod Paths
pub mod Turns
