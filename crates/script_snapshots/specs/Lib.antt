pub mod LawsOfTakings
pub mod SnapshotExchanges
pub mod Takings
