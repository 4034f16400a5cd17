pub mod PageLayout
pub mod PageChanges
pub mod KeyPlaces
pub mod LeafSteps
