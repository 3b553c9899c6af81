pub mod PartsDrawn
pub mod SizesTold
pub mod StrokesDrawn
