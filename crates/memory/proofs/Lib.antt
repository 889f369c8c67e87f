pub mod Counts
pub mod Numbers
pub mod Put
pub mod Unique
