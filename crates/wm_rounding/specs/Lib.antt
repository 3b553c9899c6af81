pub mod Forms
pub mod Bounding
pub mod Rounding
pub mod Cuts
