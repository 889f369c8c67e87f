pub mod BothWays
pub mod Cutting
pub mod Laid
pub mod ReadBack
pub mod Refusing
pub mod Unique
