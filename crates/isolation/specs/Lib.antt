pub mod Runs
pub mod Alone
pub mod Wrong
pub mod Played
pub mod Twin
pub mod Stamped
pub mod Logs
pub mod Code
