pub mod Choices
pub mod Blocks
pub mod Notes
pub mod Slots
pub mod Weights
