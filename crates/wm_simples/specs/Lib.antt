pub mod Simples
pub mod Controls
