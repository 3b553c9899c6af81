pub mod Behind
pub mod Lengths
pub mod Returns
