-- The data that a tree stands for: that of `serde_json`.
use Rattle.std.specs.Prelude.{ℕ, List, [], ◌∷◌, map, Option, option_and_then}
use Rattle.std.specs.Borrow.{Bor}
use Rattle.json.specs.Json.{value, if_last}
use Rattle.json.specs.Lex.{tokens}
use Rattle.serde_json.specs.Read.{of_json}
use Rattle.serde_json.specs.Data.{Data, null, boolean, number, string, array, object, Items, Members, no_members, put}
use Rattle.serde_json.specs.View.{number_view, items_of}
use Rattle.json_tree.specs.declared.tree.Json.{Json, fold-Json}
use Rattle.json_tree.specs.declared.tree.Json.TheOpen.{Json-F}

-- the members go in one after another, so the last value of a key stays
abbrev pub put_all : List (Bor (List ℕ) × Data) → Members → Members
put_all [] found = found
put_all (m ∷ ms) found = put_all ms (put m.0.now m.1 found)

-- one level, with each value inside already seen as its data
abbrev pub view_step : Json-F Data → Data
view_step Json-F.Null = null
view_step (Json-F.Bool b) = boolean b
view_step (Json-F.Number x) = number (number_view x)
view_step (Json-F.String s) = string s.now
view_step (Json-F.Array v) = array (items_of v.items)
view_step (Json-F.Object v) = object (put_all v.items no_members)

abbrev pub view : Json → Data
view = fold-Json Data view_step

abbrev pub items_view : List Json → Items
items_view js = items_of (map view js)

abbrev pub members_view : List (Bor (List ℕ) × Json) → Members
members_view ms = put_all (map (λ m. (m.0, view m.1)) ms) no_members

-- what `serde_json` reads, where lists and objects nest no deeper than n: its own limit is 127
abbrev pub read_within : ℕ → List ℕ → Option Data
read_within n text = option_and_then of_json (option_and_then (λ p. if_last p.0 p.1) (value n (tokens text)))
