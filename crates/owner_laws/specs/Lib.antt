pub mod Owned
pub mod Examples
