pub mod Arrivals
pub mod HopsBelow
pub mod Keys
pub mod Parts
pub mod Clear
