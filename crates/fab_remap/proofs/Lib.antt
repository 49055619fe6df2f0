pub mod Crossing
pub mod Giving
pub mod Owned
pub mod Possible
pub mod Stopped
