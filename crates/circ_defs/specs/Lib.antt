pub mod Asking
pub mod Circuit
pub mod CircuitMap
pub mod Cores
pub mod Examples
pub mod PathList
pub mod Ways
