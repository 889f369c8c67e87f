pub mod Buffer
pub mod Digits
pub mod Examples
pub mod Fits
pub mod Unique
