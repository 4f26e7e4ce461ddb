pub mod PartyEvents
pub mod Calls
pub mod Left
