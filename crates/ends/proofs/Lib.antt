pub mod Owned
pub mod Ended
