pub mod Pacings
pub mod Rounding
