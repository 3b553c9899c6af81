pub mod ArmsDrawn
pub mod BodiesDrawn
pub mod LoopsDrawn
pub mod Sizes
pub mod TreesDrawn
