pub mod Fabrics
pub mod Naming
pub mod Possible
pub mod Removal
pub mod Routing
pub mod Tables
