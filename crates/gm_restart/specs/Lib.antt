pub mod End
pub mod Calls
pub mod Whole
