pub mod Leasts
pub mod Setting
