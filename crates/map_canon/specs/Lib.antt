pub mod Declaring
pub mod Reading
pub mod Printing
