pub mod Layout
pub mod Scan
pub mod Walk
pub mod Code
