pub mod CircuitLinks
pub mod MapLines
pub mod Words
pub mod Hosts
pub mod Marks
