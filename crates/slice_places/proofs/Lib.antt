pub mod Judged
pub mod Meaning
pub mod Unique
