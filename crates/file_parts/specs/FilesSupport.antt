-- No reader needs this file: it serves the proofs of this crate.
-- Trees, and files by their texts, as code has them.
use Rattle.std.specs.Prelude.{ℕ, List, [], ◌∷◌, if◌then◌else◌, codes}
use Rattle.std.specs.Borrow.{Bor}
use Rattle.std.specs.Str.{bytes_eq}
use Rattle.std.specs.declared.alloc.Global.{Global}
use Rattle.json.specs.Json.{Json, Members, no_members, member}
use Rattle.json.specs.Value.{value_view}
use Rattle.json.specs.declared.value.Value.{Value}
use Rattle.file_parts.specs.Files.{Files, at_items, at_key, put}

abbrev pub Tree : Type 0
Tree = Value Global

abbrev pub Entry : Type 0
Entry = Bor (List ℕ) × Tree

-- ---- the changes, from the inside

abbrev pub put_in_item : Files → Json → Json
put_in_item files named = at_key (codes "contract") (put files) named

abbrev pub put_in_list : Files → Json → Json
put_in_list files list = at_items (put_in_item files) list

-- what is behind a key, changed where the key is this one
abbrev pub if_key : List ℕ → (Json → Json) → List ℕ → Json → Json
if_key key f k j = if bytes_eq k key then f j else j

-- ---- members as pairs

abbrev pub Pair : Type 0
Pair = List ℕ × Json

abbrev pub pair_of : Entry → Pair
pair_of m = (m.0.now, value_view m.1)

abbrev pub changed_pair : List ℕ → (Json → Json) → Entry → Pair
changed_pair key f m = (m.0.now, if_key key f m.0.now (value_view m.1))

abbrev pub of_pairs : List Pair → Members
of_pairs [] = no_members
of_pairs (p ∷ ps) = member p.0 p.1 (of_pairs ps)
