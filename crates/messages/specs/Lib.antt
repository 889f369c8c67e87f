pub mod Accepted
pub mod Damaged
pub mod Message
pub mod Said
