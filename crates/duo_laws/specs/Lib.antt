pub mod Polled
pub mod Examples
