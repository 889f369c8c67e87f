pub mod Entries
pub mod Flipped
pub mod Halves
pub mod Linear
pub mod Seal
pub mod Small
pub mod Unique
pub mod Xor
