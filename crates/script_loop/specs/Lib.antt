pub mod Streams
pub mod WholeLines
pub mod Memory
pub mod Reader
pub mod Machines
pub mod Runs
