pub mod PagesNeeded
pub mod Divided
pub mod Grows
pub mod Widens
pub mod Roots
pub mod Adds
