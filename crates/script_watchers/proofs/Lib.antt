pub mod AskLemmas
pub mod AskingLines
pub mod CallLemmas
pub mod MachineLemmas
pub mod ToldIdLemmas
pub mod TurnLemmas
pub mod WatchLemmas
