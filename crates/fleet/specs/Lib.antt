pub mod Sparse
pub mod Fleet
pub mod Room
pub mod Together
pub mod Wide
