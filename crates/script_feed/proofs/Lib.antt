pub mod AnswerLemmas
pub mod DriveLines
pub mod GivenLemmas
pub mod KeptLemmas
pub mod WordLemmas
