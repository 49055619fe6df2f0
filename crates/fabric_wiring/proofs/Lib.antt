pub mod Changing
pub mod HopTables
pub mod Hopping
pub mod Turned
pub mod Wirings
