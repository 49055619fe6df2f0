pub mod Told
pub mod Bytes
pub mod Waiting
pub mod Held
pub mod Examples
