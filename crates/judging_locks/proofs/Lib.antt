pub mod LockTurns
pub mod Fines
pub mod Flats
