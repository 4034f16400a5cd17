pub mod Refusals
pub mod AskFits
pub mod RequestAnswered
