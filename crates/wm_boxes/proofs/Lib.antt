pub mod Least
pub mod Others
pub mod Paired
