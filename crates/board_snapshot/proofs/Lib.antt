pub mod WrittenLemmas
pub mod OneRunLemmas
pub mod TopLemmas
