pub mod Clamps
pub mod Extremes
pub mod Floors
pub mod Order
pub mod Products
