pub mod Acting
pub mod Parts
