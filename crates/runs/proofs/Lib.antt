pub mod RunsSay
pub mod Looks
pub mod Missing
pub mod EntryChanges
pub mod Deletes
pub mod Inserts
pub mod Next
pub mod AskedAt
