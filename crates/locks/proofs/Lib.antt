pub mod LockValues
pub mod SlotBack
pub mod SlotBytes
pub mod Takes
pub mod Releases
pub mod Holders
