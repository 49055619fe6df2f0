pub mod EarLists
pub mod Laws
pub mod Search
pub mod Taking
pub mod Trails
pub mod TwoWalks
pub mod TwoWays
