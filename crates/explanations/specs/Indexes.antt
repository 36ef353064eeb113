-- The way through a tree that a text is read as.
use Rattle.std.specs.Prelude.{ℕ, ◌+◌, List, [], ◌∷◌, map, Option, Some, None, option_map, slice_get, if◌then◌else◌}
use Rattle.std.specs.Borrow.{Bor}
use Rattle.names.specs.Equal.{same_text}
use Rattle.json_tree.specs.declared.tree.Json.{Json, out-Json}
use Rattle.json_tree.specs.declared.tree.Json.TheOpen.{Json-F}
use Rattle.json_forms.specs.Forms.{key_word}
use Rattle.json_stops.specs.declared.stop.Step.{Step}
use Rattle.json_stops.specs.declared.stop.Step.TheVariants as steps

abbrev pub Member : Type 0
Member = Bor (List ℕ) × Json

-- a value, opened at its top
abbrev pub opened : Json → Json-F Json
opened json = out-Json json

-- the keys of an object, in order
abbrev pub keys_by : Json-F Json → List (List ℕ)
keys_by (Json-F.Object v) = map (λ (m : Member). m.0.now) v.items
keys_by other = []

abbrev pub keys_in : Json → List (List ℕ)
keys_in json = keys_by (opened json)

-- of these members, counted from n on, the last that has the key, or else what was found before
abbrev pub last_from : List ℕ → ℕ → List Member → Option (ℕ × Json) → Option (ℕ × Json)
last_from word n [] found = found
last_from word n (m ∷ ms) found = last_from word (n + 1) ms (if same_text m.0.now word then Some (n, m.1) else found)

-- the member or the item to which a step leads, with its index
abbrev pub member_by : List ℕ → Json-F Json → Option (ℕ × Json)
member_by word (Json-F.Object v) = last_from word 0 v.items None
member_by word other = None

abbrev pub with_index : ℕ → Option Json → Option (ℕ × Json)
with_index n found = option_map (λ json. (n, json)) found

abbrev pub item_by : ℕ → Json-F Json → Option (ℕ × Json)
item_by n (Json-F.Array v) = with_index n (slice_get v.items n)
item_by n other = None

abbrev pub next_part : Step → Json → Option (ℕ × Json)
next_part (steps.Key k) json = member_by (key_word k) (opened json)
next_part (steps.Item n) json = item_by n (opened json)

-- the indexes of a path, as far as it leads
abbrev pub and_then_on : (Json → List ℕ) → Option (ℕ × Json) → List ℕ
and_then_on rest None = []
and_then_on rest (Some p) = p.0 ∷ rest p.1

abbrev pub indexes_of : List Step → Json → List ℕ
indexes_of [] json = []
indexes_of (step ∷ path) json = and_then_on (indexes_of path) (next_part step json)
