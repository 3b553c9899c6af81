pub mod Cuts
pub mod Meeting
pub mod Setting
