pub mod Whole
pub mod Zones
pub mod Positions
pub mod Rounded
pub mod Code
pub mod Said
