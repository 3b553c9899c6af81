pub mod UsedPlaces
