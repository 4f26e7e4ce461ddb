pub mod AnswerLooks
pub mod DriveReading
pub mod Given
pub mod KeptOf
pub mod PlainLines
