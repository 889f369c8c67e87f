pub mod Promised
pub mod Ruled
pub mod Spelled
pub mod Unique
