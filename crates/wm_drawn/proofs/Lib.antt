pub mod Intervals
pub mod Paired
pub mod Rising
pub mod Drawing
