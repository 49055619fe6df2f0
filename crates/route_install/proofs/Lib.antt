pub mod Numbers
pub mod Applying
pub mod Cutting
pub mod Works
pub mod Gathering
mod Likely
pub mod Ruled
pub mod Sets
pub mod Rising
