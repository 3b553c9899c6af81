pub mod Drawing
pub mod Pieces
pub mod Values
pub mod Effects
pub mod Tests
pub mod Trees
pub mod Owning
pub mod Whole
