pub mod Lines
pub mod Answers
pub mod Laws
pub mod Commands
pub mod Reports
pub mod Examples
