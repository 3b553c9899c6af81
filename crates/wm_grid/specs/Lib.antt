pub mod Beside
pub mod Steps
pub mod Given
pub mod Grid
