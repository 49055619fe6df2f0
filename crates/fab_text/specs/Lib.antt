pub mod Fault
pub mod Line
pub mod Split
pub mod Word
pub mod Written
