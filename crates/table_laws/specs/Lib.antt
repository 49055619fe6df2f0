pub mod Set
pub mod Packets
pub mod Bodies
pub mod Laws
pub mod Acts
pub mod Provenance
pub mod Examples
