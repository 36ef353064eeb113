use Rattle.play_endings.proofs.WorkedLemmas.{turns_are_one_intent, rounds_end_what_was_pooled, refusals_end_it, endings_are_told}
use Rattle.play_endings.proofs.worked.worked_endings.Goals as goal

pub returns : goal.returns
returns c = record { turns = turns_are_one_intent; rounds = rounds_end_what_was_pooled; refusals = refusals_end_it; lines = endings_are_told }
