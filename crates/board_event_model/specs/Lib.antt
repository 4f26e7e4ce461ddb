-- what events, their calls and their runs are, and the laws that hold of them
pub mod Ids
pub mod EventMemory
pub mod NotifyCalls
pub mod WaitCalls
pub mod EventCalls
pub mod EventRuns
pub mod EventSessions
pub mod LawsOfQuiet
pub mod LawsOfCalls
pub mod LawsOfAccesses
pub mod LawsOfIds
pub mod LawsOfSessions
pub mod WorkedRuns
