pub mod Unique
pub mod Promised
