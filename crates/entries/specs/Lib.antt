pub mod Arrays
pub mod Means
pub mod Sent
pub mod Twos
