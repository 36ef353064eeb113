-- A list of two, by its length.
use Rattle.std.proofs.Common.{◌≡◌, ◌<◌, List, [], ◌∷◌, length, map, Some, Err, refl, arith}
use Rattle.serde_json.specs.Data.{Data}
use Rattle.serde_json.specs.Find.{as_array}
use Rattle.serde_json.specs.View.{items_of}
use Rattle.json_read_names.specs.Parts.{two_items, pair}
use Rattle.json_read_names.specs.declared.fault.JsonFault.TheVariants.{NoForm}

module _ {X : Type 0} (json : X → Data) where
  fewer : (vs : List X) → length vs < 2 → two_items (items_of (map json vs)) ≡ Err NoForm
  fewer [] h = refl
  fewer (a ∷ []) h = refl
  fewer (a ∷ b ∷ vs) h = absurd (omega arith)

  more : (vs : List X) → 2 < length vs → two_items (items_of (map json vs)) ≡ Err NoForm
  more [] h = refl
  more (a ∷ []) h = refl
  more (a ∷ b ∷ []) h = absurd (omega arith)
  more (a ∷ b ∷ c ∷ vs) h = refl

  -- a list of fewer isn't one
  pub pair-fewer : (d : Data) (vs : List X) → Some (items_of (map json vs)) ≡ as_array d → length vs < 2 → pair d ≡ Err NoForm
  pair-fewer d vs e h = rw (← e) (fewer vs h)

  -- nor a list of more
  pub pair-more : (d : Data) (vs : List X) → Some (items_of (map json vs)) ≡ as_array d → 2 < length vs → pair d ≡ Err NoForm
  pair-more d vs e h = rw (← e) (more vs h)
