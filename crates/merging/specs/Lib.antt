pub mod Orders
pub mod Slices
