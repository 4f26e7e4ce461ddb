pub mod Queue
pub mod LockedQueue
pub mod Channels
pub mod TypedCalls
