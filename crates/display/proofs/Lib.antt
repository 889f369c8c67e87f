pub mod Handing
pub mod Laws
pub mod Reported
pub mod Unique
