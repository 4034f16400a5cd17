pub mod RequestMeaning
pub mod RequestRecord
