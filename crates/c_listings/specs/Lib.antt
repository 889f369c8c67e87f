pub mod Calls
pub mod Prints
pub mod Checks
pub mod Orders
