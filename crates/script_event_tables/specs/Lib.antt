pub mod EventTables
pub mod Listeners
