pub mod Premises
pub mod Kept
pub mod Cause
pub mod Counts
pub mod Tables
pub mod Examples
