pub mod Carried
pub mod Events
pub mod Following
pub mod Held
pub mod Hop
pub mod Moments
pub mod Resting
