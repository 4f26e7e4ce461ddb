pub mod Handles
pub mod BoardEnds
pub mod LentForms
