pub mod Bools
pub mod Bytes
pub mod Fits
pub mod Packing
pub mod Tables
pub mod Unique
