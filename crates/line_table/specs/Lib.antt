pub mod Apart
pub mod Fits
pub mod Form
pub mod Laws
pub mod Matching
pub mod Said
pub mod Table
pub mod Texts
