pub mod Placing
pub mod NewPlaces
pub mod Suiting
