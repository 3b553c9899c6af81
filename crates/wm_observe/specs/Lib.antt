pub mod Ended
pub mod Functions
pub mod Lines
pub mod Observation
pub mod Standing
pub mod Watched
