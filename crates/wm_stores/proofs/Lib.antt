pub mod DirectStores
pub mod SpotsDrawn
