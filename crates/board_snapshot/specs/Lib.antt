pub mod LawsOfRuns
pub mod Top
