pub mod CounterLemmas
pub mod Sessions
pub mod Turns
pub mod Wants
pub mod ShortSteps
pub mod StepsOnBoards
pub mod BytesWant
mod Refusals
mod UnkeptLines
