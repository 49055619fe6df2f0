pub mod Asks
pub mod Ends
pub mod Finding
pub mod Growths
pub mod Maps
pub mod Turns
