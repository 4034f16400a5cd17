pub mod FirstSeparator
pub mod EntryRows
pub mod ChildRows
pub mod PageChanges
pub mod LeafSettling
pub mod Halves
pub mod PageSearches
pub mod RowsWritten
