pub mod Clauses
pub mod Unique
