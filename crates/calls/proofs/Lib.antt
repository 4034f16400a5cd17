pub mod Determined
pub mod CallRuns
pub mod AnswerBytes
pub mod SomeOutcome
