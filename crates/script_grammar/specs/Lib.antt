-- A reader of lines, from their tokens on, and the laws of lines, answers and outputs.
pub mod TokenReading
pub mod LineReading
pub mod EventReading
pub mod LawsOfBoardLines
pub mod LawsOfScriptLines
pub mod LawsOfOutputs
pub mod LawsOfNumbers
