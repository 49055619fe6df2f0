pub mod Broken
pub mod Cut
pub mod Done
pub mod Duos
pub mod Named
pub mod Places
