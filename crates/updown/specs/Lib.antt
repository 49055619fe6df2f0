pub mod Examples
pub mod Lowering
pub mod Oriented
pub mod Sorted
