pub mod Circuit
pub mod Lines
pub mod Made
