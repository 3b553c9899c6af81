pub mod LoopEdges
pub mod NamesMade
pub mod PiecesJoin
pub mod SmallPieces
