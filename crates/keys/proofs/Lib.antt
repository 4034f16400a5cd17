pub mod KeyMarks
pub mod DerivedOrder
