pub mod Blocks
pub mod Forms
pub mod Parts
pub mod Stating
pub mod Steps
