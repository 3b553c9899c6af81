pub mod SidesDrawn
pub mod Subtracted
