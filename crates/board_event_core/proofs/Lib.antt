pub mod BitLemmas
mod TableLemmas
mod RowLemmas
mod EventLemmas
mod StandingLemmas
pub mod PassLemmas
