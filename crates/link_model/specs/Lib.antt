pub mod Alone
pub mod Carried
pub mod Full
pub mod Hop
pub mod State
pub mod FullSlots
