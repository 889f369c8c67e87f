pub mod Ways
pub mod Edges
pub mod Promised
pub mod Unique
