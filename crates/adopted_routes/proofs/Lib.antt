pub mod Refusals
pub mod SameRoutes
pub mod Sets
