pub mod Ways
pub mod Scanned
pub mod Delivered
pub mod Unique
pub mod Lawful
pub mod Promised
