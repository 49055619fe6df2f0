pub mod Canon
pub mod Examples
pub mod Laws
pub mod Naming
pub mod Search
