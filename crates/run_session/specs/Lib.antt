pub mod Holding
pub mod Kept
pub mod Obeyed
pub mod Told
