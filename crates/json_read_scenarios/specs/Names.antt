-- Lists of items that have names: the place of a name, a name that is new, and items that are read one by one, each beside those
-- before it.
use Rattle.std.specs.Prelude.{ℕ, ◌+◌, List, [], ◌∷◌, ◌++◌, Option, Some, None, Ok, Err, is_some, option_map, if◌then◌else◌}
use Rattle.contract.specs.Names.Equal.{same_text}
use Rattle.serde_json.specs.Data.{Data, Items, no_items, item}
use Rattle.serde_json.specs.Find.{as_array}
use Rattle.contract.specs.Collections.Answers.{◌>>=◌}
use Rattle.json_read_names.specs.Parts.{Reading, needed, text}
use Rattle.json_read_names.specs.declared.fault.JsonFault.TheVariants.{NoForm}

module _ {X : Type 0} (name_of : X → List ℕ) where
  -- the place of the first item of that name, from 0
  abbrev pub place_of : List ℕ → List X → Option ℕ
  place_of name [] = None
  place_of name (x ∷ xs) = if same_text (name_of x) name then Some 0 else option_map (λ n. n + 1) (place_of name xs)

  -- a name that an item has: the item's place
  abbrev pub known : List X → Data → Reading ℕ
  known xs d = text d >>= λ name. needed (place_of name xs)

  -- a name that no item has
  abbrev pub new_name : List X → Data → Reading (List ℕ)
  new_name xs d = text d >>= λ name. if is_some (place_of name xs) then Err NoForm else Ok name

module _ {X : Type 0} (reading : List X → Data → Reading X) where
  -- one item after another behind those that were read, each beside those before it
  abbrev pub one_by_one : List X → Items → Reading (List X)
  one_by_one xs no_items = Ok xs
  one_by_one xs (item d ds) = reading xs d >>= λ x. one_by_one (xs ++ x ∷ []) ds

  -- a list, each of whose items is read beside those before it
  abbrev pub list_in_turn : Data → Reading (List X)
  list_in_turn d = needed (as_array d) >>= one_by_one []
