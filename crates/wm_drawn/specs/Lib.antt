pub mod Pairing
pub mod Fitting
pub mod Drawn
