pub mod Printed
pub mod Standing
pub mod Alike
pub mod Shown
pub mod Marks
pub mod Routes
