pub mod TakenItems
