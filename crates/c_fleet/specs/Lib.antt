pub mod Sides
pub mod Fleets
pub mod Keys
pub mod Roomy
pub mod Listings
pub mod Merged
