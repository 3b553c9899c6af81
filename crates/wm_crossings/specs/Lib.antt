pub mod Arrays
pub mod Heads
