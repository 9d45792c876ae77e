pub mod Listing
pub mod Room
