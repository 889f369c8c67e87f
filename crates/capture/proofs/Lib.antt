pub mod Parts
pub mod Promised
pub mod Records
pub mod Rules
pub mod Sealed
pub mod Turns
pub mod Unique
pub mod Ways
