-- No reader needs this file: it serves a private function.
use Rattle.std.specs.Prelude.{pos, ◌+ℤ◌, ◌-ℤ◌, int_lt, List, [], ◌∷◌, if◌then◌else◌}
use Rattle.claims.specs.declared.claim.Claim.{Claim}

-- what of the second claim lies below the first
abbrev pub front_of : {K : Type 0} → Claim K → Claim K → List (Claim K)
front_of first second = if int_lt second.from first.from then (record second { to = first.from -ℤ pos 1 }) ∷ [] else []

-- and what of it lies above
abbrev pub rest_of : {K : Type 0} → Claim K → Claim K → Claim K
rest_of first second = record second { from = first.to +ℤ pos 1 }
