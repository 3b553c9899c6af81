pub mod Clearing
pub mod Freeing
pub mod Letting
