pub mod Merged
pub mod Code
