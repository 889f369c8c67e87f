pub mod Laid
pub mod OnGround
pub mod Refusing
pub mod Unique
