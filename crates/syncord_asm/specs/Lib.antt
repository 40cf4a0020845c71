pub mod Slots
pub mod Assemblies
pub mod Listings
