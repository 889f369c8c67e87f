pub mod Latitudes
pub mod Sizes
pub mod Meaning
pub mod BothWays
pub mod Steps
pub mod Unique
