pub mod DriveEndings
pub mod DriveSteps
