pub mod Answers
pub mod Emptied
pub mod Hearing
pub mod Lawful
pub mod Promised
pub mod Unique
