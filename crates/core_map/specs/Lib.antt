pub mod Hanging
pub mod Lasting
pub mod Laws
pub mod Marks
pub mod Walking
