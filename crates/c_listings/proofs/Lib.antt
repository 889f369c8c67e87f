pub mod Listed
pub mod Printed
pub mod Checked
pub mod Ordered
pub mod Every
pub mod Examples
