pub mod Bytes
pub mod Heard
pub mod Table
pub mod View
pub mod Code
