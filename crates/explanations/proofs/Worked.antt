-- The worked rows.
use Rattle.std.proofs.Common.{refl}
use Rattle.std.specs.Fmt.{digits}
use Rattle.std.specs.Str.{chars}
use lib.Utf8.{encode}
use Rattle.json.proofs.OnLiterals.{json_on_literals}
use Rattle.explanations.specs.Rows.{BrokenTextsAreTold, BrokenTextsAreMembers}

pub broken_texts_are_told : BrokenTextsAreTold
unfolding digits chars encode
broken_texts_are_told = (refl, refl, refl, refl)

pub broken_texts_are_members : BrokenTextsAreMembers
unfolding digits chars encode json_on_literals
broken_texts_are_members = (refl, refl, refl)
