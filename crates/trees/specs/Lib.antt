pub mod Trees
pub mod Growth
pub mod Shapes
