pub mod Nodes
pub mod Labels
