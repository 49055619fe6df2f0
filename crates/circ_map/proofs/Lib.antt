pub mod Finding
pub mod Fitting
pub mod Inward
pub mod Keeping
pub mod Numbers
pub mod Refusing
pub mod Turnwise
pub mod Without
