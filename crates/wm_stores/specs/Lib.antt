pub mod Draws
pub mod Directs
