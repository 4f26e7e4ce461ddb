pub mod OpeningLemmas
pub mod ReportedLemmas
pub mod StandingLemmas
pub mod WatchLaws
pub mod WatchingLemmas
pub mod WorkedWatch
