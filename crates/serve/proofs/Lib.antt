pub mod AskedLemmas
pub mod AnswerLemmas
pub mod StreamLemmas
