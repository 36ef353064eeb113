-- No reader needs this file: it serves private functions.
-- What is read inside a list and inside an object, whose values nest no deeper than n, and what is left behind it.
use Rattle.std.specs.Prelude.{ℕ, List, length, Option}
use Rattle.json.specs.Token.{Token}
use Rattle.json.specs.Json as spec
use Rattle.serde_json.specs.Data.{Items, Members, no_members}
use Rattle.serde_json.specs.Read.{of_items, of_members, converted}

abbrev pub items_read : ℕ → List Token → Option (Items × List Token)
items_read n ts = converted of_items (spec.items (spec.value n) (length ts) ts)

abbrev pub members_read : ℕ → List Token → Option (Members × List Token)
members_read n ts = converted (λ ms. of_members ms no_members) (spec.members (spec.value n) (length ts) ts)
