pub mod Heard
pub mod Said
pub mod Stamps
pub mod Times
