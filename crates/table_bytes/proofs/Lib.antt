pub mod Parts
pub mod Scanned
pub mod Stores
pub mod Places
pub mod Unique
