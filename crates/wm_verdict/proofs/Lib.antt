pub mod Fits
pub mod Judging
pub mod Showing
