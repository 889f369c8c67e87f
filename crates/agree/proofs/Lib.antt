pub mod Examples
pub mod Means
pub mod Shown
pub mod Steps
pub mod Unique
