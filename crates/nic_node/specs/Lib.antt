pub mod Held
pub mod Messages
pub mod Reading
pub mod Sending
pub mod Accepting
pub mod Ending
pub mod Waiting
