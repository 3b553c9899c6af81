pub mod Bounds
pub mod Edges
pub mod Endless
pub mod Turnings
