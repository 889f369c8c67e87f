pub mod Located
pub mod Said
pub mod Code
