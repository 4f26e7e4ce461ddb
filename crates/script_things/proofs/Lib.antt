pub mod PlaceLemmas
mod TakenLemmas
mod ToldLemmas
mod UnderLemmas
