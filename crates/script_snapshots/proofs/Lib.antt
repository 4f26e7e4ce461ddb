pub mod AliveLemmas
pub mod FedLemmas
pub mod TakingLaws
pub mod TakingLemmas
