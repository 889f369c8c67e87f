pub mod Accepted
pub mod Examples
pub mod Extension
pub mod OfCode
pub mod Promised
pub mod Unique
pub mod Ways
