pub mod Apart
pub mod Bytes
pub mod Filled
pub mod Numbers
pub mod Plain
pub mod Spoken
