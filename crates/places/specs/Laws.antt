-- How the keys of a path and of a place go together, and where they lead in a contract's JSON.
use Rattle.std.specs.Prelude.{◌≡◌, ◌⊎◌, ◌≢◌, List, [], ◌∷◌, ◌++◌, Option, Some, None}
use Rattle.std.specs.Option.{option_and_then}
use Rattle.serde_json.specs.Data.{Data, string}
use Rattle.serde_json.specs.Find.{get, at}
use Rattle.contract.specs.Tree.{ContractTree}
use Rattle.analysis_spec.specs.declared.path.PathStep.{PathStep}
use Rattle.analysis_spec.specs.Places.{part_behind}
use Rattle.json_write_contracts.specs.WrittenContract.{contract_json}
use Rattle.places.specs.declared.key.Key.{Key}
use Rattle.places.specs.declared.key.Key.TheVariants as keys
use Rattle.places.specs.Places.{form_key, path_keys, keys_of}
use Rattle.places.specs.Texts.{key_word}

-- the part of a contract that a path leads to, if there is one
abbrev pub part_at : ContractTree → List PathStep → Option ContractTree
part_at c [] = Some c
part_at c (step ∷ path) = option_and_then (λ d. part_at d path) (part_behind c step)

-- where a path leads to a part, the keys of that place are those of the path and the first of the form there
abbrev pub PlacesBeginWithTheirPaths : Type 0
PlacesBeginWithTheirPaths = (c d : ContractTree) (path : List PathStep) → part_at c path ≡ Some d → keys_of path c ≡ path_keys path ++ form_key d ∷ []

-- ---- in JSON

-- what stands behind a key, or at an index; and behind several, one after another
abbrev pub behind_key : Key → Data → Option Data
behind_key (keys.Item n) d = at n d
behind_key key d = get (key_word key) d

abbrev pub behind_keys : List Key → Data → Option Data
behind_keys [] d = Some d
behind_keys (key ∷ ks) d = option_and_then (behind_keys ks) (behind_key key d)

-- the keys of a path lead to the JSON of the part that the path leads to
abbrev pub KeysLeadThroughJson : Type 0
KeysLeadThroughJson = (c d : ContractTree) (path : List PathStep) → part_at c path ≡ Some d → behind_keys (path_keys path) (contract_json c) ≡ Some (contract_json d)

-- and the JSON there has the key of its form, or is that word: Close
abbrev pub FormsHaveTheirKeys : Type 0
FormsHaveTheirKeys = (c : ContractTree) → (behind_key (form_key c) (contract_json c) ≢ None) ⊎ (contract_json c ≡ string (key_word (form_key c)))
