-- What holds of every contract: it and its tree determine each other.
use Rattle.std.specs.Prelude.{◌≡◌}

-- there and back, either way, and one value for each tree
abbrev pub OneTreeEach : {X T : Type 0} → (X → T) → (T → X) → Type 0
OneTreeEach {X} {T} tree of = ((t : T) → tree (of t) ≡ t) × ((x : X) → of (tree x) ≡ x) × ((x y : X) → tree x ≡ tree y → x ≡ y)
