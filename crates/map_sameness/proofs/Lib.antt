pub mod Forced
pub mod Pairs
pub mod Meeting
pub mod Whole
pub mod Loops
