pub mod Clamping
pub mod Differences
pub mod Raising
