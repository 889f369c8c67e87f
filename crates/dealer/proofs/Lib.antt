pub mod Keyed
pub mod Joining
pub mod Unique
