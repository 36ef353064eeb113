-- A value and an observation that were written are read as they were.
use Rattle.std.proofs.Common.{◌≡◌, ℕ, ℤ, pos, negsuc, true, false, List, Ok, refl}
use Rattle.std.specs.Prelude.{codes}
use Rattle.serde_json.specs.Data.{Data, boolean, string}
use Rattle.contract.specs.Names.declared.party.Party.{Party}
use Rattle.contract.specs.Names.declared.token.Token.{Token}
use Rattle.contract.specs.Names.declared.choice_id.ChoiceId.{ChoiceId}
use Rattle.contract.specs.declared.value.Value.{Value}
use Rattle.contract.specs.declared.value.Value as values
use Rattle.contract.specs.declared.value.Observation.{Observation}
use Rattle.contract.specs.declared.value.Observation as observations
use Rattle.contract.specs.Tree.{ValueTree, available_money, constant, neg_value, add_value, sub_value, mul_value, div_value, choice_value, time_interval_start, time_interval_end, use_value, cond_value}
use Rattle.contract.specs.TreeInverse.{value_of}
use Rattle.contract.specs.Tree.{ObservationTree, and_obs, or_obs, not_obs, chose_something, value_ge, value_gt, value_lt, value_le, value_eq, true_obs, false_obs}
use Rattle.contract.specs.TreeInverse.{observation_of}
use Rattle.json_read_names.specs.Forms.{value_form, observation_form}
use Rattle.json_read_names.specs.ReadsNames.{party, token, choice_id}
use Rattle.json_read_values.specs.ReadsValue.{value, value_by, observation, observation_by}
use Rattle.json_write_contracts.specs.Symbols.{ValueSymbols, ObservationSymbols}
use Rattle.json_write_contracts.specs.WrittenNames.{one, two, three, number_json, party_json, token_json, choice_id_json}
use Rattle.json_write_contracts.specs.WrittenValues.{value_json, observation_json}
use Rattle.contract_json.proofs.Hexes.{token-token_json}
use Rattle.contract_json.proofs.ReturnsNames.{party-party_json, choice_id-choice_id_json}

-- ---- values, from what is inside

value-negate : (a : Data) (v : Value) → value a ≡ Ok v → value (one (codes "negate") a) ≡ Ok (values.NegValue v)
unfolding value value_by observation_by value_form observation_form
value-negate a v h = rw (h) refl

value-add : (a : Data) (b : Data) (v : Value) (w : Value) → value a ≡ Ok v → value b ≡ Ok w → value (two (codes "add") a (codes "and") b) ≡ Ok (values.AddValue v w)
unfolding value value_by observation_by value_form observation_form
value-add a b v w h k = rw (h, k) refl

value-minus : (a : Data) (b : Data) (v : Value) (w : Value) → value a ≡ Ok v → value b ≡ Ok w → value (two (codes "minus") b (codes "value") a) ≡ Ok (values.SubValue v w)
unfolding value value_by observation_by value_form observation_form
value-minus a b v w h k = rw (h, k) refl

value-multiply : (a : Data) (b : Data) (v : Value) (w : Value) → value a ≡ Ok v → value b ≡ Ok w → value (two (codes "multiply") a (codes "times") b) ≡ Ok (values.MulValue v w)
unfolding value value_by observation_by value_form observation_form
value-multiply a b v w h k = rw (h, k) refl

value-divide : (a : Data) (b : Data) (v : Value) (w : Value) → value a ≡ Ok v → value b ≡ Ok w → value (two (codes "by") b (codes "divide") a) ≡ Ok (values.DivValue v w)
unfolding value value_by observation_by value_form observation_form
value-divide a b v w h k = rw (h, k) refl

value-if : (a : Data) (b : Data) (c : Data) (o : Observation) (v : Value) (w : Value) → observation a ≡ Ok o → value b ≡ Ok v → value c ≡ Ok w → value (three (codes "else") c (codes "if") a (codes "then") b) ≡ Ok (values.Cond o v w)
unfolding value value_by observation_by value_form observation_form
value-if a b c o v w h k l = rw (h, k, l) refl

observation-both : (a : Data) (b : Data) (o : Observation) (q : Observation) → observation a ≡ Ok o → observation b ≡ Ok q → observation (two (codes "and") b (codes "both") a) ≡ Ok (observations.AndObs o q)
unfolding value value_by observation_by value_form observation_form
observation-both a b o q h k = rw (h, k) refl

observation-either : (a : Data) (b : Data) (o : Observation) (q : Observation) → observation a ≡ Ok o → observation b ≡ Ok q → observation (two (codes "either") a (codes "or") b) ≡ Ok (observations.OrObs o q)
unfolding value value_by observation_by value_form observation_form
observation-either a b o q h k = rw (h, k) refl

observation-not : (a : Data) (o : Observation) → observation a ≡ Ok o → observation (one (codes "not") a) ≡ Ok (observations.NotObs o)
unfolding value value_by observation_by value_form observation_form
observation-not a o h = rw (h) refl

observation-ge_than : (a : Data) (b : Data) (v : Value) (w : Value) → value a ≡ Ok v → value b ≡ Ok w → observation (two (codes "ge_than") b (codes "value") a) ≡ Ok (observations.ValueGE v w)
unfolding value value_by observation_by value_form observation_form
observation-ge_than a b v w h k = rw (h, k) refl

observation-gt : (a : Data) (b : Data) (v : Value) (w : Value) → value a ≡ Ok v → value b ≡ Ok w → observation (two (codes "gt") b (codes "value") a) ≡ Ok (observations.ValueGT v w)
unfolding value value_by observation_by value_form observation_form
observation-gt a b v w h k = rw (h, k) refl

observation-lt : (a : Data) (b : Data) (v : Value) (w : Value) → value a ≡ Ok v → value b ≡ Ok w → observation (two (codes "lt") b (codes "value") a) ≡ Ok (observations.ValueLT v w)
unfolding value value_by observation_by value_form observation_form
observation-lt a b v w h k = rw (h, k) refl

observation-le_than : (a : Data) (b : Data) (v : Value) (w : Value) → value a ≡ Ok v → value b ≡ Ok w → observation (two (codes "le_than") b (codes "value") a) ≡ Ok (observations.ValueLE v w)
unfolding value value_by observation_by value_form observation_form
observation-le_than a b v w h k = rw (h, k) refl

observation-equal_to : (a : Data) (b : Data) (v : Value) (w : Value) → value a ≡ Ok v → value b ≡ Ok w → observation (two (codes "equal_to") b (codes "value") a) ≡ Ok (observations.ValueEQ v w)
unfolding value value_by observation_by value_form observation_form
observation-equal_to a b v w h k = rw (h, k) refl

value-available : (d e : Data) (p : Party) (t : Token) → token d ≡ Ok t → party e ≡ Ok p → value (two (codes "amount_of_token") d (codes "in_account") e) ≡ Ok (values.AvailableMoney p t)
unfolding value value_by observation_by value_form observation_form
value-available d e p t h k = rw (h, k) refl

value-constant : (n : ℤ) → value (number_json n) ≡ Ok (values.Constant n)
unfolding value value_by observation_by value_form observation_form
value-constant (pos n) = refl
value-constant (negsuc n) = refl

value-choice : (d : Data) (id : ChoiceId) → choice_id d ≡ Ok id → value (one (codes "value_of_choice") d) ≡ Ok (values.ChoiceValue id)
unfolding value value_by observation_by value_form observation_form
value-choice d id h = rw h refl

value-use : (x : List ℕ) → value (one (codes "use_value") (string x)) ≡ Ok (values.UseValue x)
unfolding value value_by observation_by value_form observation_form
value-use x = refl

value-start : value (string (codes "time_interval_start")) ≡ Ok values.TimeIntervalStart
unfolding value value_by observation_by value_form observation_form
value-start = refl

value-end : value (string (codes "time_interval_end")) ≡ Ok values.TimeIntervalEnd
unfolding value value_by observation_by value_form observation_form
value-end = refl

observation-chose : (d : Data) (id : ChoiceId) → choice_id d ≡ Ok id → observation (one (codes "chose_something_for") d) ≡ Ok (observations.ChoseSomething id)
unfolding value value_by observation_by value_form observation_form
observation-chose d id h = rw h refl

observation-true : observation (boolean true) ≡ Ok observations.TrueObs
unfolding value value_by observation_by value_form observation_form
observation-true = refl

observation-false : observation (boolean false) ≡ Ok observations.FalseObs
unfolding value value_by observation_by value_form observation_form
observation-false = refl

-- ---- along the tree

mutual
  pub value-back : (v : ValueTree) → ValueSymbols v → value (value_json v) ≡ Ok (value_of v)
  value-back (available_money p t) h = value-available (token_json t) (party_json p) p t (token-token_json (token_json t) t refl h) (party-party_json p)
  value-back (constant n) h = value-constant n
  value-back (neg_value v) h = value-negate (value_json v) (value_of v) (value-back v h)
  value-back (add_value v w) h = value-add (value_json v) (value_json w) (value_of v) (value_of w) (value-back v h.0) (value-back w h.1)
  value-back (sub_value v w) h = value-minus (value_json v) (value_json w) (value_of v) (value_of w) (value-back v h.0) (value-back w h.1)
  value-back (mul_value v w) h = value-multiply (value_json v) (value_json w) (value_of v) (value_of w) (value-back v h.0) (value-back w h.1)
  value-back (div_value v w) h = value-divide (value_json v) (value_json w) (value_of v) (value_of w) (value-back v h.0) (value-back w h.1)
  value-back (choice_value id) h = value-choice (choice_id_json id) id (choice_id-choice_id_json id)
  value-back time_interval_start h = value-start
  value-back time_interval_end h = value-end
  value-back (use_value x) h = value-use x
  value-back (cond_value o v w) h = value-if (observation_json o) (value_json v) (value_json w) (observation_of o) (value_of v) (value_of w) (observation-back o h.0) (value-back v h.1.0) (value-back w h.1.1)

  pub observation-back : (o : ObservationTree) → ObservationSymbols o → observation (observation_json o) ≡ Ok (observation_of o)
  observation-back (and_obs o q) h = observation-both (observation_json o) (observation_json q) (observation_of o) (observation_of q) (observation-back o h.0) (observation-back q h.1)
  observation-back (or_obs o q) h = observation-either (observation_json o) (observation_json q) (observation_of o) (observation_of q) (observation-back o h.0) (observation-back q h.1)
  observation-back (not_obs o) h = observation-not (observation_json o) (observation_of o) (observation-back o h)
  observation-back (chose_something id) h = observation-chose (choice_id_json id) id (choice_id-choice_id_json id)
  observation-back (value_ge v w) h = observation-ge_than (value_json v) (value_json w) (value_of v) (value_of w) (value-back v h.0) (value-back w h.1)
  observation-back (value_gt v w) h = observation-gt (value_json v) (value_json w) (value_of v) (value_of w) (value-back v h.0) (value-back w h.1)
  observation-back (value_lt v w) h = observation-lt (value_json v) (value_json w) (value_of v) (value_of w) (value-back v h.0) (value-back w h.1)
  observation-back (value_le v w) h = observation-le_than (value_json v) (value_json w) (value_of v) (value_of w) (value-back v h.0) (value-back w h.1)
  observation-back (value_eq v w) h = observation-equal_to (value_json v) (value_json w) (value_of v) (value_of w) (value-back v h.0) (value-back w h.1)
  observation-back true_obs h = observation-true
  observation-back false_obs h = observation-false
