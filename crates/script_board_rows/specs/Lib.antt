pub mod CellCalls
pub mod Found
pub mod NewBoards
