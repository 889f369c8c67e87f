pub mod Calls
pub mod Runs
pub mod Backs
pub mod Flips
pub mod Logs
pub mod Stamps
pub mod Times
pub mod Degrees
