pub mod Raised
pub mod Unique
