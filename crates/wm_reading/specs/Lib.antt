pub mod Finishing
pub mod Functions
pub mod Outlines
pub mod Reading
pub mod Statics
