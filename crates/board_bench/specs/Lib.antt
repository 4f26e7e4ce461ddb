pub mod Task
pub mod Watchers
pub mod Blocks
pub mod Handles
pub mod Done
pub mod Top
