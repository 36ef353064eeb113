-- The worked judgements compute.
use Rattle.std.proofs.Common.{refl}
use Rattle.eutxo.specs.Asked.{Judges}
use Rattle.eutxo.specs.Worked.{NothingIsNotUnspent, UsedIsInUse, TenIsOutside, UnpublishedIsUnknown}

pub nothing : {V : Type 0} (j : Judges V) → NothingIsNotUnspent j
nothing j = refl

pub used : {V : Type 0} (j : Judges V) → UsedIsInUse j
used j = refl

pub ten : {V : Type 0} (j : Judges V) → TenIsOutside j
ten j = refl

pub unpublished : {V : Type 0} (j : Judges V) → UnpublishedIsUnknown j
unpublished j script digest = refl
