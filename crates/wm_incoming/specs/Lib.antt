pub mod Into
pub mod Standing
