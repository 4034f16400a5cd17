pub mod AnswerMeaning
pub mod AnswerRecord
