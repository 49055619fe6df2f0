pub mod Built
pub mod Kept
