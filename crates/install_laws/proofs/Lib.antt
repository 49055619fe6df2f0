pub mod Worlds
pub mod Leads
mod Tables
pub mod Epochs
mod Parts
pub mod Since
mod Between
mod Collecting
mod Growing
mod Heard
mod Trying
mod Walking
pub mod Installing
pub mod Counting
mod Unplanned
mod TwoHosts
