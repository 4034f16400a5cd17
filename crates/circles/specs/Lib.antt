pub mod CircleSets
pub mod Search
pub mod InTheWay
