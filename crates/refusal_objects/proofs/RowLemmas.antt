-- The worked rows.
use Rattle.std.proofs.Common.{refl}
use Rattle.std.specs.Fmt.{digits}
use Rattle.refusal_objects.specs.Worked.{NumberedRefusal}

pub numbered_refusal : NumberedRefusal
unfolding digits
numbered_refusal = (refl, refl)
