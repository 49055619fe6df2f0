pub mod Held
pub mod Kept
pub mod Back
pub mod Serving
