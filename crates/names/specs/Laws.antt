-- What holds of all names: a test of sameness passes exactly for equal ones, and each sort stands in its order.
use Rattle.std.specs.Prelude.{◌≡◌, Bool}
use Rattle.std.specs.Bool.{Decides}
use Rattle.std.specs.declared.cmp.Ordering.{Ordering}

-- a test passes exactly for equal values
abbrev pub TellsApart : {X : Type 0} → (X → X → Bool) → Type 0
TellsApart {X} same = (x y : X) → Decides (same x y) (x ≡ y)

-- two orders place all values alike
abbrev pub IsOrderedBy : {X : Type 0} → (X → X → Ordering) → (X → X → Ordering) → Type 0
IsOrderedBy {X} cmp order = (x y : X) → cmp x y ≡ order x y
