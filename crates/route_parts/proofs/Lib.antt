mod Appended
pub mod Entries
pub mod Parts
