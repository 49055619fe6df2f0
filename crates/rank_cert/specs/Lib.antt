pub mod Checking
pub mod Crossing
pub mod Following
pub mod Listing
