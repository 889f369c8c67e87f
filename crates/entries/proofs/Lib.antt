pub mod Filling
pub mod Refusing
pub mod Twos
pub mod Unique
pub mod Ways
