pub mod Counts
pub mod Frees
pub mod Tokens
pub mod Delivered
pub mod Seeing
pub mod Working
pub mod Enough
