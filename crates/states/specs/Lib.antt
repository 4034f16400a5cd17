pub mod States
pub mod Fitting
pub mod Whole
pub mod Fresh
