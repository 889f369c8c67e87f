pub mod Code
pub mod Integrity
pub mod Said
pub mod Standard
pub mod Tables
