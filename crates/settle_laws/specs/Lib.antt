pub mod Premises
pub mod Settles
pub mod Examples
