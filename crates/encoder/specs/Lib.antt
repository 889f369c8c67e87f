pub mod Encoded
pub mod Code
