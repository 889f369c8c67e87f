pub mod Asking
pub mod Reading
