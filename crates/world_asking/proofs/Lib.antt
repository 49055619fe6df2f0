pub mod Sends
pub mod Standing
pub mod Tries
pub mod Truthful
