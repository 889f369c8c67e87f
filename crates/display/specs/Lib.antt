pub mod Lines
pub mod Handed
pub mod Code
