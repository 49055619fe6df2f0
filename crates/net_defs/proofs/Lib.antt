pub mod Distinct
pub mod Ends
pub mod Growing
mod Lasts
pub mod Places
pub mod Cabling
pub mod Cycles
pub mod TwoHosts
pub mod Turns
