mod IdWordLemmas
mod RowLemmas
