mod Given
mod Kept
