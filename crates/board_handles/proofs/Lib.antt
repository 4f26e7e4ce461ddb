pub mod Filling
pub mod LentLemmas
