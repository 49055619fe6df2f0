pub mod Accepting
pub mod Cases
pub mod Meant
pub mod Numbers
pub mod Refusing
pub mod Saying
pub mod Sound
