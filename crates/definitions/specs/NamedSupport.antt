-- Where a name stands in the list.
use Rattle.std.specs.Prelude.{ℕ, suc, List, [], ◌∷◌, Option, Some, None, option_map, if◌then◌else◌}
use Rattle.contract.specs.Names.Equal.{same_text}
use Rattle.definitions.specs.declared.definition.Definition.{Definition}

-- the first place of a name, from 0
abbrev pub place_of : List ℕ → List Definition → Option ℕ
place_of name [] = None
place_of name (d ∷ ds) = if same_text d.name name then Some 0 else option_map suc (place_of name ds)
