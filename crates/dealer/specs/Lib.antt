pub mod Keys
pub mod Joint
pub mod Code
