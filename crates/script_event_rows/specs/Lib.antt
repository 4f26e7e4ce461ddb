pub mod IdWords
pub mod EventRows
pub mod Tasks
pub mod EventCalls
