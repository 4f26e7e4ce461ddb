pub mod MachineLemmas
pub mod ShotLemmas
pub mod TurnLemmas
