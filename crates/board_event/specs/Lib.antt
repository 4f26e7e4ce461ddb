pub mod Ends
pub mod Accesses
pub mod LentForms
pub mod Taking
pub mod TypedCalls
