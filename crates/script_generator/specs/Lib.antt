pub mod Counting
pub mod Generator
pub mod LawsOfGenerator
pub mod Summary
pub mod WorkedGenerator
