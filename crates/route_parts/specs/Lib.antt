pub mod Reading
pub mod Viewing
