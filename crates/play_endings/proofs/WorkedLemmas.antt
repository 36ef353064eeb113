-- The worked rows.
use Rattle.std.proofs.Common.{refl}
use Rattle.std.specs.Fmt.{digits}
use Rattle.play_endings.specs.Rows.{TurnsAreOneIntent, RoundsEndWhatWasPooled, RefusalsEndIt, EndingsAreTold}

pub turns_are_one_intent : TurnsAreOneIntent
turns_are_one_intent call look id role i = refl

pub rounds_end_what_was_pooled : RoundsEndWhatWasPooled
rounds_end_what_was_pooled call look i = refl

pub refusals_end_it : RefusalsEndIt
refusals_end_it call look = (refl, refl)

pub endings_are_told : EndingsAreTold
unfolding digits
endings_are_told = (refl, refl, refl)
