mod TableLemmas
mod WordLemmas
mod TryLemmas
mod RestLemmas
mod ReachLemmas
mod OneLemmas
mod AllLemmas
mod NotifyLemmas
mod OpenLemmas
mod TypedNotify
mod TypedWaits
mod TypedOne
mod TypedAll
pub mod CallerLemmas
