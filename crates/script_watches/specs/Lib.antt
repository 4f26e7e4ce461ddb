pub mod LawsOfWatches
pub mod WatchExchanges
pub mod Watchings
pub mod WorkedWatches
