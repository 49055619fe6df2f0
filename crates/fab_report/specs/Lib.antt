pub mod Kinds
pub mod Printed
pub mod There
pub mod Words
