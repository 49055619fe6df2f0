pub mod Answer
pub mod Right
pub mod Failing
