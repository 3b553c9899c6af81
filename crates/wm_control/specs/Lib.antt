pub mod Moves
pub mod Pieces
pub mod Seen
