pub mod Cutting
pub mod Digits
pub mod Forms
pub mod Ends
mod Keywords
