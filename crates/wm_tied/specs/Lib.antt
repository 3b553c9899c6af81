pub mod Leaving
pub mod Pointed
pub mod Projecting
