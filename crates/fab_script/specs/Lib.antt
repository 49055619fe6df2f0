pub mod Lists
pub mod Parts
pub mod Ranges
pub mod Commands
pub mod Leading
pub mod LineLists
pub mod Values
pub mod Plain
