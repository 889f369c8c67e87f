pub mod Bytes
pub mod Offsets
pub mod Ranges
pub mod Code
