pub mod Growing
pub mod Inside
pub mod Mapping
