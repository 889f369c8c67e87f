pub mod Numbers
pub mod Keyed
pub mod Walking
pub mod Heads
pub mod Fits
pub mod Ways
pub mod Unique
