pub mod EntryOneToOne
