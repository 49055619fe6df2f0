pub mod Along
pub mod Checked
pub mod Crossed
pub mod Halves
pub mod Pairs
pub mod Places
