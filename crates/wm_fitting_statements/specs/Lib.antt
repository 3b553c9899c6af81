pub mod Laws
pub mod PlainPieces
