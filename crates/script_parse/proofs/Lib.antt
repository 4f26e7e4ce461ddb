pub mod Digits
pub mod EntryLemmas
pub mod PartLemmas
pub mod TokenLemmas
pub mod KeptLemmas
pub mod ShortLemmas
