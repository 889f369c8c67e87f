pub mod Held
pub mod Shown
pub mod Standard
pub mod Tracks
