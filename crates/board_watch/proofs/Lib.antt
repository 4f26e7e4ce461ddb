pub mod OutcomeLemmas
pub mod SaidLemmas
pub mod WrittenLemmas
pub mod OneRunLemmas
pub mod TopLemmas
