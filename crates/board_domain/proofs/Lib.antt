pub mod EntryLemmas
pub mod AskedLemmas
pub mod HeldLemmas
pub mod KeptLemmas
pub mod WalkLemmas
pub mod NodeLaws
