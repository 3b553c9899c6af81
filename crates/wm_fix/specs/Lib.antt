pub mod Replaced
pub mod Cores
