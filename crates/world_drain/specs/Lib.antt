pub mod Awake
pub mod Part
pub mod Rounds
pub mod Settling
pub mod Watch
