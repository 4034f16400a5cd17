pub mod OneTurn
pub mod Works
