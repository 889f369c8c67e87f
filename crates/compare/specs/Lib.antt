pub mod Compared
pub mod Right
pub mod Said
pub mod Code
