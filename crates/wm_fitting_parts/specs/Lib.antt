pub mod Laws
pub mod PlainParts
