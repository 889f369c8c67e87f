pub mod Fitting
pub mod Loops
pub mod Named
pub mod Own
pub mod OwnLines
pub mod Pieces
pub mod Unique
pub mod Walking
