pub mod Growing
pub mod Table
pub mod Listing
