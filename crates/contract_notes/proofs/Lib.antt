mod SameLemmas
mod UnreadLemmas
mod ComingLemmas
mod RunLemmas
mod WalkLemmas
mod TallyLemmas
mod CaseLemmas
mod WorkedLemmas
