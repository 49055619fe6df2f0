pub mod Standing
pub mod Pairing
