pub mod Cutting
pub mod Names
pub mod PlainLines
pub mod PlainWords
pub mod Printed
pub mod ReadBack
pub mod Readings
pub mod Texts
