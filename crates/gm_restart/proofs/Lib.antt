pub mod Both
pub mod Calling
pub mod Giving
pub mod Reached
pub mod Waiting
