pub mod Story
pub mod Demand3
pub mod Demand2
pub mod Namesake
pub mod Demand1
pub mod OnBytes
pub mod Demand2OnBytes
pub mod StoryPins
