pub mod Cells
pub mod Ends
pub mod NewCells
pub mod Places
