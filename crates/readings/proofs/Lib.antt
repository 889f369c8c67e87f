pub mod BelowZero
pub mod Promised
pub mod Ruled
pub mod Steps
pub mod Turns
pub mod Unique
pub mod Whole
