pub mod Places
pub mod Sends
