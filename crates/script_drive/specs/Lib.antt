pub mod Drivers
pub mod DriveRuns
