mod Hexadecimal
pub mod Names
mod Parts
pub mod Printing
pub mod Summaries
pub mod Writing
