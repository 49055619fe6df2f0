pub mod Probes
pub mod Former
pub mod Lawful
pub mod Stuck
pub mod Resets
pub mod Examples
