pub mod Acts
pub mod Laws
pub mod Runs
pub mod TwoHosts
pub mod InstallLines
pub mod SettleLines
