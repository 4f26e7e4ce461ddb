pub mod Top
pub mod Whole
