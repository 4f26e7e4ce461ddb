pub mod Calls
pub mod Machines
pub mod Opening
pub mod ToldIds
pub mod Watches
