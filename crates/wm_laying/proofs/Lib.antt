pub mod Adding
pub mod Laying
pub mod Roots
pub mod Sums
