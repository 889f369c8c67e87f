pub mod Said
pub mod Text
