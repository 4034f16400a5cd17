pub mod EntryMeaning
pub mod Absent
