pub mod Delivery
pub mod Examples
