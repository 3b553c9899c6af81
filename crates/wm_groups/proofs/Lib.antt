pub mod Least
pub mod Paired
