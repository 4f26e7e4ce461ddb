pub mod Files
pub mod Changes
pub mod Life
pub mod Memory
pub mod Storage
pub mod Told
