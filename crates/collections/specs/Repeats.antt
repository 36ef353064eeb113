-- Keys that stand twice in a list of entries.
use Rattle.std.specs.Prelude.{Bool, false, ◌||◌, List, [], ◌∷◌}
use Rattle.std.specs.declared.cmp.Ordering.{Ordering}
use Rattle.std.specs.List.{list_any}
use Rattle.std.specs.Ordering.{eq_by_cmp}

module _ {K X : Type 0} (R : K → K → Ordering) where
  -- whether an entry has the key
  abbrev pub has_key : K → List (K × X) → Bool
  has_key k = list_any (λ e. eq_by_cmp R k e.0)

  -- whether two entries have one key
  abbrev pub has_repeat : List (K × X) → Bool
  has_repeat [] = false
  has_repeat (e ∷ es) = has_key e.0 es || has_repeat es
