pub mod Addresses
pub mod Adoptable
mod Few
mod Lines
pub mod Naming
