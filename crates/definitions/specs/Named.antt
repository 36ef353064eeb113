-- Contracts by their names.
use Rattle.std.specs.Prelude.{ℕ, ◌+◌, ◌&&◌, Bool, List, [], ◌∷◌, length, nat_le, Option, Some, None, is_some, if◌then◌else◌}
use Rattle.contract.specs.declared.tree.Contract.{Contract}
use Rattle.contract.specs.Names.Equal.{same_text}
use Rattle.definitions.specs.declared.definition.Definition.{Definition}

-- the contract of a name
abbrev pub named : List ℕ → List Definition → Option Contract
named name [] = None
named name (d ∷ ds) = if same_text d.name name then Some d.contract else named name ds

-- with one more: of a name that is there it takes the place of the other
abbrev pub put_named : Definition → List Definition → List Definition
put_named new [] = new ∷ []
put_named new (d ∷ ds) = if same_text d.name new.name then new ∷ ds else d ∷ put_named new ds

-- without the contract of a name
abbrev pub without_named : List ℕ → List Definition → List Definition
without_named name [] = []
without_named name (d ∷ ds) = if same_text d.name name then ds else d ∷ without_named name ds

abbrev pub is_there : List ℕ → List Definition → Bool
is_there name ds = is_some (named name ds)

-- the bytes of all texts
abbrev pub bytes_of : List Definition → ℕ
bytes_of [] = 0
bytes_of (d ∷ ds) = d.bytes + bytes_of ds

-- at most 1,000 of at most 256 MiB together
abbrev pub has_room : List Definition → Bool
has_room ds = nat_le (length ds) 1000 && nat_le (bytes_of ds) 268435456
