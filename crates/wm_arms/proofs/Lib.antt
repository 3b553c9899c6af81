pub mod Asks
pub mod ReturnsDrawn
