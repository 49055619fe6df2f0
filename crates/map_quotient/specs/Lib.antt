pub mod Numbering
pub mod Naming
pub mod Joining
pub mod InOrder
