-- What is read can be written: JSON has its numbers.
use Rattle.std.proofs.Common.{◌≡◌, ℕ, true, ◌&&◌, List, Ok, Err, subst, ap, ◌∙◌, Ordering, Less, Equal, Greater}
use Rattle.std.specs.Prelude.{codes}
use Rattle.std.specs.Ordering.{nat_cmp, match_ordering}
use Rattle.std.specs.Cmp.Lexicographic.{slice_cmp}
use Rattle.serde_json.specs.Data.{Data, null, boolean, number, string, array, object, Members, no_members, member}
use Rattle.contract.specs.declared.value.Value.{Value}
use Rattle.contract.specs.declared.value.Observation.{Observation}
use Rattle.contract.specs.Tree.{value_tree, observation_tree}
use Rattle.contract.proofs.TreeLaws as laws
use Rattle.json_read_names.specs.Forms.{value_form, observation_form}
use Rattle.json_read_names.specs.Parts.{Reading, ByKey, reading_at, both_readings, nowhere, text, whole_number}
use Rattle.json_read_names.specs.ReadsNames.{party, token, choice_id}
use Rattle.json_read_names.specs.declared.forms.ValueForm.{ValueForm}
use Rattle.json_read_names.specs.declared.forms.ValueForm.TheVariants as value_forms
use Rattle.json_read_names.specs.declared.forms.ObservationForm.{ObservationForm}
use Rattle.json_read_names.specs.declared.forms.ObservationForm.TheVariants as observation_forms
use Rattle.json_read_values.specs.ReadsValue.{value_by, observation_by, value, value_in, observation, observation_in}
use Rattle.json_write_contracts.specs.WrittenValues.{value_fits, observation_fits}
use Rattle.contract_json.proofs.Ranges.{InRange, MembersInRange, bind_ok, ok-same, whole-fits}

abbrev pub VF : Value → Type 0
VF v = value_fits (value_tree v) ≡ true

abbrev pub OF : Observation → Type 0
OF o = observation_fits (observation_tree o) ≡ true

pub both-ok : {A B : Type 0} (a : Reading A) (b : Reading B) (p : A × B) → both_readings a b ≡ Ok p → (a ≡ Ok p.0) × (b ≡ Ok p.1)
both-ok (Ok x) (Ok y) p h = (ap (λ q. Ok q.0) (ok-same (x, y) p h), ap (λ q. Ok q.1) (ok-same (x, y) p h))
both-ok (Ok x) (Err fault) p h = cc
both-ok (Err fault) b p h = cc

-- whichever of the two was taken
pub either : {X : Type 0} (P : Type 0) (o : Ordering) (later here : Reading X) (x : X) → match_ordering o later here later ≡ Ok x → (later ≡ Ok x → P) → (here ≡ Ok x → P) → P
either P Less later here x h f g = f h
either P Equal later here x h f g = g h
either P Greater later here x h f g = f h

nothing : {X : Type 0} (P : X → Type 0) (key : List ℕ) (x : X) → nowhere {X = X} key ≡ Ok x → P x
nothing P key x h = cc

value_by-fits : (f : ValueForm) (d : Data) (va : ByKey Value) (oa : ByKey Observation) → ((key : List ℕ) (w : Value) → va key ≡ Ok w → VF w) → ((key : List ℕ) (o : Observation) → oa key ≡ Ok o → OF o) → (x : Value) → InRange d → value_by f d va oa ≡ Ok x → VF x
unfolding value_by
value_by-fits value_forms.Constant d va oa hv ho x r h =
    let b = bind_ok (whole_number d) _ x h in subst VF (ok-same _ _ b.2) (ap value_fits (laws.value_tree-Constant b.0) ∙ whole-fits d b.0 r b.1)
value_by-fits value_forms.TimeIntervalStart d va oa hv ho x r h = subst VF (ok-same _ _ h) (ap value_fits laws.value_tree-TimeIntervalStart)
value_by-fits value_forms.TimeIntervalEnd d va oa hv ho x r h = subst VF (ok-same _ _ h) (ap value_fits laws.value_tree-TimeIntervalEnd)
value_by-fits value_forms.AvailableMoney d va oa hv ho x r h =
    let k = bind_ok (reading_at token d (codes "amount_of_token")) _ x h in
    let p = bind_ok (reading_at party d (codes "in_account")) _ x k.2 in
    subst VF (ok-same _ _ p.2) (ap value_fits (laws.value_tree-AvailableMoney p.0 k.0))
value_by-fits value_forms.NegValue d va oa hv ho x r h =
    let b = bind_ok (va (codes "negate")) _ x h in subst VF (ok-same _ _ b.2) (ap value_fits (laws.value_tree-NegValue b.0) ∙ hv (codes "negate") b.0 b.1)
value_by-fits value_forms.AddValue d va oa hv ho x r h =
    let b = bind_ok (both_readings (va (codes "add")) (va (codes "and"))) _ x h in
    let p = both-ok (va (codes "add")) (va (codes "and")) b.0 b.1 in
    subst VF (ok-same _ _ b.2) (ap value_fits (laws.value_tree-AddValue b.0.0 b.0.1) ∙ (λ i. hv (codes "add") b.0.0 p.0 i && hv (codes "and") b.0.1 p.1 i))
value_by-fits value_forms.SubValue d va oa hv ho x r h =
    let b = bind_ok (both_readings (va (codes "value")) (va (codes "minus"))) _ x h in
    let p = both-ok (va (codes "value")) (va (codes "minus")) b.0 b.1 in
    subst VF (ok-same _ _ b.2) (ap value_fits (laws.value_tree-SubValue b.0.0 b.0.1) ∙ (λ i. hv (codes "value") b.0.0 p.0 i && hv (codes "minus") b.0.1 p.1 i))
value_by-fits value_forms.MulValue d va oa hv ho x r h =
    let b = bind_ok (both_readings (va (codes "multiply")) (va (codes "times"))) _ x h in
    let p = both-ok (va (codes "multiply")) (va (codes "times")) b.0 b.1 in
    subst VF (ok-same _ _ b.2) (ap value_fits (laws.value_tree-MulValue b.0.0 b.0.1) ∙ (λ i. hv (codes "multiply") b.0.0 p.0 i && hv (codes "times") b.0.1 p.1 i))
value_by-fits value_forms.DivValue d va oa hv ho x r h =
    let b = bind_ok (both_readings (va (codes "divide")) (va (codes "by"))) _ x h in
    let p = both-ok (va (codes "divide")) (va (codes "by")) b.0 b.1 in
    subst VF (ok-same _ _ b.2) (ap value_fits (laws.value_tree-DivValue b.0.0 b.0.1) ∙ (λ i. hv (codes "divide") b.0.0 p.0 i && hv (codes "by") b.0.1 p.1 i))
value_by-fits value_forms.ChoiceValue d va oa hv ho x r h =
    let id = bind_ok (reading_at choice_id d (codes "value_of_choice")) _ x h in subst VF (ok-same _ _ id.2) (ap value_fits (laws.value_tree-ChoiceValue id.0))
value_by-fits value_forms.UseValue d va oa hv ho x r h =
    let name = bind_ok (reading_at text d (codes "use_value")) _ x h in subst VF (ok-same _ _ name.2) (ap value_fits (laws.value_tree-UseValue name.0))
value_by-fits value_forms.Cond d va oa hv ho x r h =
    let o = bind_ok (oa (codes "if")) _ x h in
    let b = bind_ok (both_readings (va (codes "then")) (va (codes "else"))) _ x o.2 in
    let p = both-ok (va (codes "then")) (va (codes "else")) b.0 b.1 in
    subst VF (ok-same _ _ b.2) (ap value_fits (laws.value_tree-Cond o.0 b.0.0 b.0.1) ∙ (λ i. ho (codes "if") o.0 o.1 i && hv (codes "then") b.0.0 p.0 i && hv (codes "else") b.0.1 p.1 i))
value_by-fits value_forms.Nothing d va oa hv ho x r h = cc

observation_by-fits : (f : ObservationForm) (d : Data) (va : ByKey Value) (oa : ByKey Observation) → ((key : List ℕ) (w : Value) → va key ≡ Ok w → VF w) → ((key : List ℕ) (o : Observation) → oa key ≡ Ok o → OF o) → (x : Observation) → InRange d → observation_by f d va oa ≡ Ok x → OF x
unfolding observation_by
observation_by-fits observation_forms.TrueObs d va oa hv ho x r h = subst OF (ok-same _ _ h) (ap observation_fits laws.observation_tree-TrueObs)
observation_by-fits observation_forms.FalseObs d va oa hv ho x r h = subst OF (ok-same _ _ h) (ap observation_fits laws.observation_tree-FalseObs)
observation_by-fits observation_forms.AndObs d va oa hv ho x r h =
    let b = bind_ok (both_readings (oa (codes "both")) (oa (codes "and"))) _ x h in
    let p = both-ok (oa (codes "both")) (oa (codes "and")) b.0 b.1 in
    subst OF (ok-same _ _ b.2) (ap observation_fits (laws.observation_tree-AndObs b.0.0 b.0.1) ∙ (λ i. ho (codes "both") b.0.0 p.0 i && ho (codes "and") b.0.1 p.1 i))
observation_by-fits observation_forms.OrObs d va oa hv ho x r h =
    let b = bind_ok (both_readings (oa (codes "either")) (oa (codes "or"))) _ x h in
    let p = both-ok (oa (codes "either")) (oa (codes "or")) b.0 b.1 in
    subst OF (ok-same _ _ b.2) (ap observation_fits (laws.observation_tree-OrObs b.0.0 b.0.1) ∙ (λ i. ho (codes "either") b.0.0 p.0 i && ho (codes "or") b.0.1 p.1 i))
observation_by-fits observation_forms.NotObs d va oa hv ho x r h =
    let b = bind_ok (oa (codes "not")) _ x h in subst OF (ok-same _ _ b.2) (ap observation_fits (laws.observation_tree-NotObs b.0) ∙ ho (codes "not") b.0 b.1)
observation_by-fits observation_forms.ChoseSomething d va oa hv ho x r h =
    let id = bind_ok (reading_at choice_id d (codes "chose_something_for")) _ x h in subst OF (ok-same _ _ id.2) (ap observation_fits (laws.observation_tree-ChoseSomething id.0))
observation_by-fits observation_forms.ValueGE d va oa hv ho x r h =
    let b = bind_ok (both_readings (va (codes "value")) (va (codes "ge_than"))) _ x h in
    let p = both-ok (va (codes "value")) (va (codes "ge_than")) b.0 b.1 in
    subst OF (ok-same _ _ b.2) (ap observation_fits (laws.observation_tree-ValueGE b.0.0 b.0.1) ∙ (λ i. hv (codes "value") b.0.0 p.0 i && hv (codes "ge_than") b.0.1 p.1 i))
observation_by-fits observation_forms.ValueGT d va oa hv ho x r h =
    let b = bind_ok (both_readings (va (codes "value")) (va (codes "gt"))) _ x h in
    let p = both-ok (va (codes "value")) (va (codes "gt")) b.0 b.1 in
    subst OF (ok-same _ _ b.2) (ap observation_fits (laws.observation_tree-ValueGT b.0.0 b.0.1) ∙ (λ i. hv (codes "value") b.0.0 p.0 i && hv (codes "gt") b.0.1 p.1 i))
observation_by-fits observation_forms.ValueLT d va oa hv ho x r h =
    let b = bind_ok (both_readings (va (codes "value")) (va (codes "lt"))) _ x h in
    let p = both-ok (va (codes "value")) (va (codes "lt")) b.0 b.1 in
    subst OF (ok-same _ _ b.2) (ap observation_fits (laws.observation_tree-ValueLT b.0.0 b.0.1) ∙ (λ i. hv (codes "value") b.0.0 p.0 i && hv (codes "lt") b.0.1 p.1 i))
observation_by-fits observation_forms.ValueLE d va oa hv ho x r h =
    let b = bind_ok (both_readings (va (codes "value")) (va (codes "le_than"))) _ x h in
    let p = both-ok (va (codes "value")) (va (codes "le_than")) b.0 b.1 in
    subst OF (ok-same _ _ b.2) (ap observation_fits (laws.observation_tree-ValueLE b.0.0 b.0.1) ∙ (λ i. hv (codes "value") b.0.0 p.0 i && hv (codes "le_than") b.0.1 p.1 i))
observation_by-fits observation_forms.ValueEQ d va oa hv ho x r h =
    let b = bind_ok (both_readings (va (codes "value")) (va (codes "equal_to"))) _ x h in
    let p = both-ok (va (codes "value")) (va (codes "equal_to")) b.0 b.1 in
    subst OF (ok-same _ _ b.2) (ap observation_fits (laws.observation_tree-ValueEQ b.0.0 b.0.1) ∙ (λ i. hv (codes "value") b.0.0 p.0 i && hv (codes "equal_to") b.0.1 p.1 i))
observation_by-fits observation_forms.Nothing d va oa hv ho x r h = cc

mutual
  unfolding value

  pub value-read-fits : (d : Data) (v : Value) → InRange d → value d ≡ Ok v → VF v
  value-read-fits null v r h = value_by-fits (value_form null) null nowhere nowhere (λ key w e. nothing VF key w e) (λ key o e. nothing OF key o e) v r h
  value-read-fits (boolean b) v r h = value_by-fits (value_form (boolean b)) (boolean b) nowhere nowhere (λ key w e. nothing VF key w e) (λ key o e. nothing OF key o e) v r h
  value-read-fits (number n) v r h = value_by-fits (value_form (number n)) (number n) nowhere nowhere (λ key w e. nothing VF key w e) (λ key o e. nothing OF key o e) v r h
  value-read-fits (string s) v r h = value_by-fits (value_form (string s)) (string s) nowhere nowhere (λ key w e. nothing VF key w e) (λ key o e. nothing OF key o e) v r h
  value-read-fits (array ds) v r h = value_by-fits (value_form (array ds)) (array ds) nowhere nowhere (λ key w e. nothing VF key w e) (λ key o e. nothing OF key o e) v r h
  value-read-fits (object ms) v r h =
      value_by-fits (value_form (object ms)) (object ms) (λ key. value_in key ms) (λ key. observation_in key ms) (λ key w e. value_in-fits key ms w r e) (λ key o e. observation_in-fits key ms o r e) v r h

  value_in-fits : (key : List ℕ) (ms : Members) (v : Value) → MembersInRange ms → value_in key ms ≡ Ok v → VF v
  value_in-fits key no_members v r h = cc
  value_in-fits key (member k d ms) v r h = either (VF v) (slice_cmp nat_cmp key k) (value_in key ms) (value d) v h (λ e. value_in-fits key ms v r.1 e) (λ e. value-read-fits d v r.0 e)

  pub observation-read-fits : (d : Data) (o : Observation) → InRange d → observation d ≡ Ok o → OF o
  observation-read-fits null o r h = observation_by-fits (observation_form null) null nowhere nowhere (λ key w e. nothing VF key w e) (λ key q e. nothing OF key q e) o r h
  observation-read-fits (boolean b) o r h = observation_by-fits (observation_form (boolean b)) (boolean b) nowhere nowhere (λ key w e. nothing VF key w e) (λ key q e. nothing OF key q e) o r h
  observation-read-fits (number n) o r h = observation_by-fits (observation_form (number n)) (number n) nowhere nowhere (λ key w e. nothing VF key w e) (λ key q e. nothing OF key q e) o r h
  observation-read-fits (string s) o r h = observation_by-fits (observation_form (string s)) (string s) nowhere nowhere (λ key w e. nothing VF key w e) (λ key q e. nothing OF key q e) o r h
  observation-read-fits (array ds) o r h = observation_by-fits (observation_form (array ds)) (array ds) nowhere nowhere (λ key w e. nothing VF key w e) (λ key q e. nothing OF key q e) o r h
  observation-read-fits (object ms) o r h =
      observation_by-fits (observation_form (object ms)) (object ms) (λ key. value_in key ms) (λ key. observation_in key ms) (λ key w e. value_in-fits key ms w r e) (λ key q e. observation_in-fits key ms q r e) o r h

  observation_in-fits : (key : List ℕ) (ms : Members) (o : Observation) → MembersInRange ms → observation_in key ms ≡ Ok o → OF o
  observation_in-fits key no_members o r h = cc
  observation_in-fits key (member k d ms) o r h = either (OF o) (slice_cmp nat_cmp key k) (observation_in key ms) (observation d) o h (λ e. observation_in-fits key ms o r.1 e) (λ e. observation-read-fits d o r.0 e)
