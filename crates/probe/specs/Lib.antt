pub mod Body
pub mod Chained
pub mod Drowning
pub mod Flat
pub mod Keeping
pub mod Laws
pub mod Pushing
