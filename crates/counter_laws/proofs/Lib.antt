pub mod Present
pub mod Acting
pub mod Summing
pub mod Working
