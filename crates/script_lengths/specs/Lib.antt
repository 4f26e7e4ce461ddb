-- How long answers are, by the lists that they tell; how small boards stay and how few ids are taken; right answers, and runs.
pub mod ShortAnswers
pub mod SizedAnswers
pub mod BoardSizes
pub mod EventRooms
pub mod ScriptLengths
pub mod CheckedRuns
