mod UnderLemmas
mod CasesLemmas
mod HereLemmas
mod AnswerLemmas
mod Worked
