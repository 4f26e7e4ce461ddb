pub mod Notes
pub mod StatusLemmas
