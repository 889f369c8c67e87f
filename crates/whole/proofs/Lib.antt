pub mod Buffer
pub mod Lowest
pub mod Promised
pub mod Steps
pub mod Unique
pub mod Ways
