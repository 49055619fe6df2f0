pub mod Drains
pub mod Examples
pub mod Leads
