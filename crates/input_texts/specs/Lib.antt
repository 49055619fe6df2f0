pub mod Forms
pub mod Generated
pub mod Reading
