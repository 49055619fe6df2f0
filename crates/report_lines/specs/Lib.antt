pub mod Lines
pub mod Meaning
pub mod Reading
pub mod Slots
