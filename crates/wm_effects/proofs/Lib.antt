pub mod EffectsDrawn
pub mod NamesMade
pub mod StoresDrawn
