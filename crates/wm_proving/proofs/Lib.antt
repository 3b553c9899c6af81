pub mod Shaped
mod Fitting
mod UsedPlaces
mod Choosing
