mod Options
mod Tables
mod TableCalls
mod Tasks
mod Running
mod Maps
mod Holding
mod Asks
mod Accesses
mod Releases
mod Abandonments
mod Expiries
mod Checks
mod Steps
pub mod Shown
