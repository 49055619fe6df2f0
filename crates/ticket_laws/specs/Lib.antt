pub mod Tickets
pub mod Host
pub mod Laws
