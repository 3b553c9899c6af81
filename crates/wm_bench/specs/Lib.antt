pub mod Fits
pub mod Octagons
