pub mod CallsDrawn
pub mod ElementsRead
