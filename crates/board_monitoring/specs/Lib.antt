pub mod Monitors
pub mod TypedCalls
