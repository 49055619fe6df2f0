pub mod Sizes
mod Hosts
pub mod Ways
