pub mod Counting
pub mod Order
pub mod Holding
pub mod Placing
pub mod Lists
