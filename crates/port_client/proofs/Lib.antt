pub mod Holding
pub mod Tokens
pub mod Returns
pub mod Serving
