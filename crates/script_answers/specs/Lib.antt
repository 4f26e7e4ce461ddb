pub mod AnswerReading
pub mod TokenGroups
