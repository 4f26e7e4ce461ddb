pub mod Boards
pub mod Tables
pub mod Calls
pub mod Steps
pub mod LawsOfSteps
pub mod NewBoards
