pub mod Declaring
pub mod Plain
pub mod Printing
pub mod Reading
