pub mod Pictures
pub mod Searches
pub mod Changes
pub mod Descents
