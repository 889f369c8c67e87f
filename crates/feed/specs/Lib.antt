pub mod Feed
pub mod Said
