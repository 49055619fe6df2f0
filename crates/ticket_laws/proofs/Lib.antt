pub mod Lists
pub mod Matching
pub mod Sendings
pub mod Ports
pub mod Hosts
pub mod Keeping
pub mod Parts
pub mod Backing
