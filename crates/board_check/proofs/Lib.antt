pub mod TopLemmas
pub mod Accepted
