pub mod Hosts
pub mod Callers
pub mod Owners
pub mod Busy
