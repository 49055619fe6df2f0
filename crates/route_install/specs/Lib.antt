pub mod Collecting
pub mod Finding
pub mod Installing
pub mod Laws
