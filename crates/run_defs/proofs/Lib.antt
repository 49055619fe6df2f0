pub mod ByKind
pub mod Doing
pub mod Mapping
pub mod Moments
pub mod Reports
pub mod RowWords
