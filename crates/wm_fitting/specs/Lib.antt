pub mod Plain
pub mod Fitting
pub mod Laws
