pub mod Serves
pub mod Made
