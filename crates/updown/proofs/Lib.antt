pub mod Filters
pub mod Found
pub mod Lowered
pub mod Sorted
pub mod Ups
