pub mod Ascending
pub mod LockWalks
pub mod Passing
pub mod Verdicts
