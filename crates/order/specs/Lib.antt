pub mod Sorted
pub mod Facts
pub mod Code
