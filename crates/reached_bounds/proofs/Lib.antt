mod SameLemmas
mod ExactLemmas
mod SumLemmas
mod PlayedLemmas
mod WorkedLemmas
