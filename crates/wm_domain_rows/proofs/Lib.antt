pub mod Sizes
pub mod Differing
