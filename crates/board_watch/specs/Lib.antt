pub mod LawsOfWatchRuns
pub mod Top
