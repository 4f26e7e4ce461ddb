pub mod Boards
pub mod KeyPlaces
