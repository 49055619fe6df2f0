pub mod Laws
pub mod Offset
pub mod Ends
pub mod Kept
