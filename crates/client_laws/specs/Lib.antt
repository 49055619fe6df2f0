pub mod Noted
pub mod Examples
pub mod Handed
pub mod Seen
pub mod SeenExamples
