pub mod Bodies
pub mod Chaining
pub mod FlatParts
pub mod Indexing
mod Refusing
