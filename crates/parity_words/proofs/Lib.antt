pub mod Words
pub mod Entries
pub mod Parts
pub mod OfCode
pub mod Unique
