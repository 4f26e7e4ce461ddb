pub mod Bytes
pub mod Counters
pub mod ScriptMachine
pub mod Wants
pub mod Unkept
