pub mod Listing
pub mod Said
pub mod Walked
pub mod Code
pub mod Told
