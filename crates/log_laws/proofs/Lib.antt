pub mod Asks
pub mod Drains
pub mod Installs
pub mod PartWay
pub mod Settles
pub mod UnderWay
pub mod UpTo
