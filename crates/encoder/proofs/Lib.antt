pub mod BothWays
pub mod Exactly
pub mod OfCode
pub mod Promised
pub mod Unique
