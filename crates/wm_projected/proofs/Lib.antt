pub mod Turns
pub mod Equal
pub mod Staying
pub mod Picked
pub mod Laying
pub mod Nexts
