pub mod CaseComputing
pub mod TableOnPages
pub mod Overs
pub mod Sending
pub mod Idle
