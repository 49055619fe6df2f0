pub mod Held
pub mod Hosts
pub mod Tied
pub mod Telling
pub mod Calls
