pub mod Ends
pub mod Parts
pub mod Ranged
mod Counts
mod Digits
mod Keywords
mod Numbers
mod PlainWords
mod Sizes
pub mod Turns
