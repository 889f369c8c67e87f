pub mod Bodies
pub mod Coarse
pub mod Layouts
pub mod Said
pub mod Status
pub mod Velocity
