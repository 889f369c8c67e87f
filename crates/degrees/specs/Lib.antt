pub mod Value
pub mod Ways
pub mod Said
pub mod Code
