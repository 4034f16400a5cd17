pub mod PageChecks
pub mod Walks
