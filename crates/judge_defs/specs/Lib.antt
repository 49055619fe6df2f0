pub mod Form
pub mod Verdict
pub mod Text
pub mod Examples
