pub mod Asked
pub mod Circuits
pub mod Held
pub mod Laws
pub mod Maps
pub mod Routes
pub mod Runs
pub mod Trees
