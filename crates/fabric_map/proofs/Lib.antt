pub mod Ends
pub mod Grown
pub mod Listings
pub mod Tables
