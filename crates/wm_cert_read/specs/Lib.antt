pub mod Fits
pub mod Pairs
pub mod Steps
pub mod Whole
