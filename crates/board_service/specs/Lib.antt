pub mod Entries
pub mod Domain
pub mod Facts
pub mod Told
pub mod Descriptions
pub mod Suiting
