pub mod Division
pub mod Code
pub mod Parity
pub mod Strings
