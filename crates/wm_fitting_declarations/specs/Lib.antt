pub mod Laws
pub mod PlainDeclarations
pub mod Works
