pub mod Tokens
pub mod Kept
pub mod Short
pub mod CallReading
