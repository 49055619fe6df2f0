pub mod Counts
pub mod Conserved
pub mod Examples
