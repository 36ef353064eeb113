-- Entries without one of their keys.
use Rattle.std.specs.Prelude.{not, List}
use Rattle.std.specs.declared.cmp.Ordering.{Ordering}
use Rattle.std.specs.Ordering.{eq_by_cmp}
use Rattle.std.specs.FinMap.Entries.{where_key}

-- the entries of the other keys
abbrev pub without : {K X : Type 0} → (K → K → Ordering) → K → List (K × X) → List (K × X)
without R k = where_key R (λ x. not (eq_by_cmp R k x))
