pub mod Beside
mod Called
pub mod Indexed
pub mod KeyPlaces
