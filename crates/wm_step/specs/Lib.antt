pub mod Images
pub mod Operating
