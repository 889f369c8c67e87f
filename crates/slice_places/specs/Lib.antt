pub mod Arrivals
pub mod Decided
pub mod Head
pub mod Ranges
