pub mod IdSets
pub mod Waits
pub mod Turns
pub mod Passing
pub mod Memories
pub mod EventTable
pub mod Steps
