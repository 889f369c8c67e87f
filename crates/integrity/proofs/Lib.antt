pub mod Promised
pub mod Rows
pub mod Rules
pub mod Unique
