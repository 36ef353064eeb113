-- Parts of a JSON value.
use Rattle.std.specs.Prelude.{ℕ, List, [], ◌∷◌, Option, Some, option_and_then}
use Rattle.serde_json.specs.Data.{Data}
use Rattle.serde_json.specs.Find.{get}

-- the part to which names of members lead
abbrev pub part_at : List (List ℕ) → Data → Option Data
part_at [] d = Some d
part_at (name ∷ names) d = option_and_then (part_at names) (get name d)
