-- What is written of values.
use Rattle.std.specs.Prelude.{◌≡◌, true, ℕ, pos, negsuc, ◌^◌, ◌<◌, ⊤, List, ◌∷◌, [], ◌++◌, map, flat_map}
use Rattle.std.specs.List.{AllByRecursion}
use Rattle.serde_json.specs.Data.{Num, unsigned, negative, float, Data, null, boolean, number, string, array, object, Items, no_items, item, Members, no_members, member}
use Rattle.serde_json.specs.Written.{compact_text}
use Rattle.contract.specs.Tree.{ContractTree}
use Rattle.contract.specs.declared.payment.Payment.{Payment}
use Rattle.contract.specs.declared.warning.Warning.{Warning}
use Rattle.contract.specs.States.States.{StateMaps}
use Rattle.json_read_inputs.specs.ReadsState.{state_with_texts}
use Rattle.json_write_contracts.specs.WrittenNames.{time_fits}
use Rattle.json_write_contracts.specs.WrittenContract.{contract_fits}
use Rattle.json_write_outcomes.specs.WrittenOutcome.{outcome_json, state_json}
use Rattle.big_texts.specs.BigTexts.{with_texts}
use Rattle.big_texts.specs.Lines.{big_as_text}

-- ---- whole numbers

-- from 0 to 2^64 - 1, or from -2^63 to -1
abbrev pub IsWhole : Num → Type 0
IsWhole (unsigned n) = n < 2 ^ 64
IsWhole (negative (pos n)) = ⊥
IsWhole (negative (negsuc n)) = n < 2 ^ 63
IsWhole (float x) = ⊥

-- each number of a value is one
abbrev mutual
  pub AreWhole : Data → Type 0
  AreWhole null = ⊤
  AreWhole (boolean b) = ⊤
  AreWhole (number n) = IsWhole n
  AreWhole (string s) = ⊤
  AreWhole (array ds) = ItemsAreWhole ds
  AreWhole (object ms) = MembersAreWhole ms

  pub ItemsAreWhole : Items → Type 0
  ItemsAreWhole no_items = ⊤
  ItemsAreWhole (item d ds) = AreWhole d × ItemsAreWhole ds

  pub MembersAreWhole : Members → Type 0
  MembersAreWhole no_members = ⊤
  MembersAreWhole (member k d ms) = AreWhole d × MembersAreWhole ms

-- ---- lines

-- the text of a value and a line feed
abbrev pub line_of : Data → List ℕ
line_of d = compact_text d ++ 10 ∷ []

-- the lines of values, with texts, are the lines of the values with texts
abbrev pub LinesAreOfValues : Type 0
LinesAreOfValues = (ds : List Data) → AllByRecursion AreWhole ds → big_as_text (flat_map line_of ds) ≡ flat_map line_of (map with_texts ds)

-- ---- outcomes

-- so of the line of an outcome, if JSON has all numbers of its contract
abbrev pub OutcomesHaveTexts : Type 0
OutcomesHaveTexts = (warnings : List Warning) (payments : List Payment) (state : StateMaps) (remaining : ContractTree)
    → contract_fits remaining ≡ true → time_fits state.min_time ≡ true
    → big_as_text (line_of (outcome_json warnings payments state remaining)) ≡ line_of (with_texts (outcome_json warnings payments state remaining))

-- where numbers of a state may be texts, it is read with texts as it is read without
abbrev pub StatesAreReadAlike : Type 0
StatesAreReadAlike = (state : StateMaps) → state_with_texts (with_texts (state_json state)) ≡ state_with_texts (state_json state)
