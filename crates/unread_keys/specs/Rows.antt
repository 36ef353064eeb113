-- Worked rows, computed on the definitions.
use Rattle.std.specs.Prelude.{◌≡◌, ℕ, List, [], ◌∷◌, codes}
use Rattle.json_forms.specs.declared.sort.Numbers.TheVariants as numbers
use Rattle.json_forms.specs.declared.sort.ScenarioSort.TheVariants as parts
use Rattle.json_forms.specs.declared.sort.Sort.{Sort}
use Rattle.json_forms.specs.declared.sort.Sort.TheVariants as sorts
use Rattle.json_forms.specs.declared.key.Key.TheVariants as keys
use Rattle.unread_keys.specs.declared.unread.Step.{Step}
use Rattle.unread_keys.specs.declared.unread.Step.TheVariants.{Key, Item}
use Rattle.unread_keys.specs.declared.unread.Why.{Why}
use Rattle.unread_keys.specs.declared.unread.Why.TheVariants.{NoKey, Again}
use Rattle.unread_keys.specs.Unread.{Note, notes_in}

abbrev pub Has : List ℕ → Sort → List Note → Type 0
Has text sort found = notes_in 127 text sort ≡ found

abbrev pub note : List Step → ℕ → List ℕ → Why → Note
note path n key why = record { path = path; index = n; key = key; why = why }

-- a key of no form; one of another form; below a key that isn't read nothing is told; of two with one key the first isn't read
abbrev pub ContractsHaveNotes : Type 0
ContractsHaveNotes =
    Has (codes "\"close\"") sorts.Contract []
    × Has (codes "{\"when\":[],\"timeout\":5,\"timeout_continuation\":\"close\"}") sorts.Contract []
    × Has (codes "{\"when\":[],\"note\":{\"when\":1},\"timeout\":5,\"timeout_continuation\":\"close\"}") sorts.Contract (note [] 1 (codes "note") NoKey ∷ [])
    × Has (codes "{\"assert\":{\"not\":true,\"and\":false},\"then\":\"close\",\"be\":1}") sorts.Contract
    (note (Key keys.Assert ∷ []) 1 (codes "and") NoKey ∷ note [] 2 (codes "be") NoKey ∷ [])
    × Has (codes "{\"then\":{\"x\":1},\"assert\":true,\"then\":\"close\"}") sorts.Contract (note [] 0 (codes "then") Again ∷ [])

-- the items of a list, by what each is read as
abbrev pub StatesHaveNotes : Type 0
StatesHaveNotes =
    Has (codes "{\"accounts\":[[[{\"role_token\":\"a\",\"x\":1},{\"currency_symbol\":\"\",\"token_name\":\"\",\"y\":[]}],5]],\"choices\":[],\"boundValues\":[],\"minTime\":0}")
    (sorts.State numbers.Whole) (note (Key keys.Accounts ∷ Item 0 ∷ Item 0 ∷ Item 0 ∷ []) 1 (codes "x") NoKey ∷ note (Key keys.Accounts ∷ Item 0 ∷ Item 0 ∷ Item 1 ∷ []) 2 (codes "y") NoKey ∷ [])

-- the key that may lack is read
abbrev pub ScenariosHaveNotes : Type 0
ScenariosHaveNotes =
    Has (codes "[{\"step\":\"t\",\"inputs\":[],\"from\":0,\"to\":1,\"pool\":true},{\"step\":\"t\",\"inputs\":[],\"from\":0,\"to\":1,\"pol\":true}]")
    (sorts.OfScenario parts.Intents) (note (Item 1 ∷ []) 4 (codes "pol") NoKey ∷ [])
