pub mod ClearLemmas
pub mod GivenLemmas
pub mod OneLineLemmas
