pub mod Machines
pub mod Shots
