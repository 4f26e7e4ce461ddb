pub mod Table
pub mod Names
pub mod Configuration
pub mod Concept
pub mod Extraction
pub mod Keys
