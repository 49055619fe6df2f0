pub mod Examples
pub mod Premises
pub mod Row
pub mod Kept
pub mod Truth
