pub mod AnswerOneToOne
pub mod AnswerPut
pub mod AnswersWritten
