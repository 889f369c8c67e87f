pub mod Groups
pub mod Track
pub mod Held
pub mod Meaning
pub mod Said
pub mod Code
pub mod Leaves
