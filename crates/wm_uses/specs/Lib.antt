pub mod Last
pub mod Width
