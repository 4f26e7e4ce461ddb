pub mod Attributes
pub mod Spelling
pub mod DescriptionSpelling
