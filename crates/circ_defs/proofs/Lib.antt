pub mod Cables
pub mod Loop
pub mod Numbers
pub mod OneCable
pub mod Sides
pub mod TwoHosts
pub mod Ways
