pub mod Locals
pub mod Whole
