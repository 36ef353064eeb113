-- An item of a list, as a value.
use Rattle.std.proofs.Common.{◌≡◌, ℕ, zero, suc, ◌<◌, ◌≤◌, List, [], ◌∷◌, length, get_or, Some, None, option_map, slice_get, sym, ap, ◌∙◌, refl}
use Rattle.std.proofs.lemmas.Option.{slice_get-get_or, slice_get_past}
use Rattle.serde_json.specs.Find.{get_item}
use Rattle.json_tree.specs.View.{view, items_view}
use Rattle.json_tree.specs.declared.tree.Json.{Json}

item_of : (xs : List Json) (n : ℕ) → get_item n (items_view xs) ≡ option_map view (slice_get xs n)
item_of [] n = refl
item_of (x ∷ xs) zero = refl
item_of (x ∷ xs) (suc n) = item_of xs n

pub item_here : (xs : List Json) (n : ℕ) (x : Json) → n < length xs → x ≡ get_or xs n x → Some (view x) ≡ get_item n (items_view xs)
item_here xs n x l is = sym (item_of xs n ∙ ap (option_map view) (slice_get-get_or xs n x l ∙ ap Some (sym is)))

pub item_over : (xs : List Json) (n : ℕ) → length xs ≤ n → None ≡ get_item n (items_view xs)
item_over xs n l = sym (item_of xs n ∙ ap (option_map view) (slice_get_past xs n l))

pub ruleset item_steps = (item_here, item_over)
