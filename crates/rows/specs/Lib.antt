pub mod From
pub mod Rows
pub mod Same
