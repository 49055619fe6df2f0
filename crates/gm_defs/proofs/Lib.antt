pub mod Bodies
pub mod Choices
pub mod Found
pub mod Numbers
pub mod Pieces
pub mod Rounds
pub mod Sizes
pub mod Takers
