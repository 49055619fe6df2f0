pub mod Runs
pub mod Commands
pub mod Credit
pub mod Paid
pub mod Settled
