pub mod Certificate
pub mod Examples
pub mod Leading
pub mod RouteSets
pub mod Distances
pub mod GrowthExamples
pub mod Laws
