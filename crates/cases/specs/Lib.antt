pub mod Overs
pub mod Idle
