pub mod ArgumentsDrawn
pub mod ChainsDrawn
pub mod ExpressionsDrawn
