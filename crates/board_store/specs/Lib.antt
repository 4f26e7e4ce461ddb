pub mod Statics
pub mod Storage
pub mod Reading
pub mod TypedCalls
