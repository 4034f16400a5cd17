pub mod Bits
pub mod CircleTurns
pub mod Nexts
pub mod WaitsKnown
pub mod Links
pub mod Collected
pub mod RowBlockers
