pub mod Digits
pub mod Reckoned
pub mod Written
