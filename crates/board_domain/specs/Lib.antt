pub mod Services
pub mod Asked
pub mod ServiceHash
pub mod Kept
pub mod Walks
pub mod LentForms
pub mod Factories
pub mod LawsOfNodes
