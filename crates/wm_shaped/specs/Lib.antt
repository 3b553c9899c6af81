pub mod Spots
pub mod Fitting
pub mod Nested
pub mod Owners
pub mod Laws
