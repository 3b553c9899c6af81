pub mod Fitting
pub mod Shown
pub mod Trying
