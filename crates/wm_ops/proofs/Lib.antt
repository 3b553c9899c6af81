pub mod Bounds
pub mod ClampLemmas
pub mod NameLemmas
pub mod NormLemmas
pub mod NumberLemmas
pub mod ShiftLemmas
pub mod ValueLemmas
pub mod WidthLemmas
