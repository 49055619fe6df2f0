pub mod Named
pub mod Removing
pub mod Routes
pub mod Table
