pub mod ChangeLemmas
pub mod CountLemmas
pub mod FileLemmas
pub mod LifeLemmas
pub mod ListLemmas
pub mod LockLemmas
pub mod ReadLemmas
