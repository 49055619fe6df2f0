pub mod Adoptions
pub mod Both
pub mod Causes
pub mod Counts
pub mod InstallHosts
pub mod Lefts
pub mod Serving
