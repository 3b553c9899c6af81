pub mod Given
pub mod Table
