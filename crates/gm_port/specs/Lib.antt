pub mod Held
pub mod Laws
pub mod Lists
pub mod Opened
pub mod Refusal
pub mod Slots
pub mod Table
pub mod Tallies
