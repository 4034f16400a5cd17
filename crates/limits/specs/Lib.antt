pub mod Limits
pub mod Named
