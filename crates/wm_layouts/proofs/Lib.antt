mod Paths
mod Pieces
pub mod Grown
