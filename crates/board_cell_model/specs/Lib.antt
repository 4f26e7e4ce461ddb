-- where a cell's copies lie, and which accesses its calls owe
pub mod OwedAccesses
pub mod LawsOfCells
