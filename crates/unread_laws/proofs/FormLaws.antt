-- The first form whose keys are all there is the one that the readers take.
use Rattle.std.proofs.Common.{◌≡◌, ℕ, Bool, true, false, cond, not, ◌&&◌, ◌||◌, List, [], ◌∷◌, Option, Some, None, is_some, option_map, option_and_then, refl, sym, ap, ◌∙◌, subst}
use Rattle.std.specs.Prelude.{codes}
use Rattle.std.proofs.lemmas.Slice.Eq.{bytes_eq-Decides}
use Rattle.names.specs.Equal.{same_text}
use Rattle.json.specs.Json as json
use Rattle.serde_json.specs.Data.{Data, object, Members, no_members, put}
use Rattle.serde_json.specs.Find.{get_member}
use Rattle.serde_json.specs.Read.{of_json, of_members}
use Rattle.serde_json.proofs.Views.{get_member-put, get_member-put_other}
use Rattle.json_read_names.specs.Forms.{has, contract_form, case_form, action_form, value_form, observation_form, input_form}
use Rattle.json_read_names.specs.declared.forms.ContractForm.TheVariants as contracts
use Rattle.json_read_names.specs.declared.forms.CaseForm.TheVariants as cases
use Rattle.json_read_names.specs.declared.forms.ActionForm.TheVariants as actions
use Rattle.json_read_names.specs.declared.forms.ValueForm.TheVariants as values
use Rattle.json_read_names.specs.declared.forms.ObservationForm.TheVariants as observations
use Rattle.json_read_names.specs.declared.forms.InputForm.TheVariants as inputs
use Rattle.json_forms.specs.declared.form.Form.{Form}
use Rattle.json_forms.specs.declared.sort.Sort.{Sort}
use Rattle.json_forms.specs.declared.sort.Sort.TheVariants as sorts
use Rattle.json_forms.specs.Forms.{Field, key_word, fields_of, forms_of}
use Rattle.json_forms.specs.Lacking.{is_there, lacking}
use Rattle.std.specs.List.{find}
use Rattle.unread_keys.specs.Sorts.{first_whole, form_of}
use Rattle.unread_keys.specs.Unread.{keys_of}
use Rattle.unread_laws.specs.ReadersForms.{contract_named, case_named, action_named, value_named, observation_named, input_named, ReadersTakeTheseForms}

-- ---- the keys that are there

or_true : (b : Bool) → true ≡ (b || true)
or_true true = refl
or_true false = refl

one_put : (w k : List ℕ) (v : Data) (old : Members) (there b : Bool) → same_text k w ≡ b → (there || is_some (get_member w (put k v old))) ≡ ((b || there) || is_some (get_member w old))
one_put w k v old there true e =
    let same : k ≡ w = (bytes_eq-Decides k w).0 e in
    ap (λ o. there || is_some o) (subst (λ z. get_member z (put k v old) ≡ Some v) same (get_member-put k v old)) ∙ sym (or_true there)
one_put w k v old there false e =
    let other : w ≡ k → ⊥ = λ h. let yes : same_text k w ≡ true = (bytes_eq-Decides k w).1 (sym h) in absurd (cc) in
    ap (λ o. there || is_some o) (get_member-put_other w k v old other)

one_more : (w k : List ℕ) (ms : json.Members) (old found : Members) (o : Option Data) → option_and_then (λ v. of_members ms (put k v old)) o ≡ Some found
    → ((before : Members) → of_members ms before ≡ Some found → is_some (get_member w found) ≡ (is_there (keys_of ms) w || is_some (get_member w before)))
    → is_some (get_member w found) ≡ ((same_text k w || is_there (keys_of ms) w) || is_some (get_member w old))
one_more w k ms old found None e rest = absurd (cc)
one_more w k ms old found (Some v) e rest = rest (put k v old) e ∙ one_put w k v old (is_there (keys_of ms) w) (same_text k w) refl

abbrev content : {X : Type 0} → X → Option X → X
content x None = x
content x (Some y) = y

members_there : (w : List ℕ) (ms : json.Members) (old found : Members) → of_members ms old ≡ Some found → is_some (get_member w found) ≡ (is_there (keys_of ms) w || is_some (get_member w old))
members_there w json.no_members old found e = ap (λ o. is_some (get_member w (content old o))) (sym e)
members_there w (json.member k j ms) old found e = one_more w k ms old found (of_json j) e (λ before h. members_there w ms before found h)

or_false : (b : Bool) → (b || false) ≡ b
or_false true = refl
or_false false = refl

-- ---- the first form whose keys are all there

abbrev all : (Field → Bool) → List Field → Bool
all p [] = true
all p (f ∷ fs) = p f && all p fs

none_lacks : (p : Field → Bool) (fs : List Field) → is_some (find (λ f. not (p f)) fs) ≡ not (all p fs)
none_lacks p [] = refl
none_lacks p (f ∷ fs) =
    let at : Bool → Type 0 = λ b. is_some (cond (not b) (Some f) (find (λ g. not (p g)) fs)) ≡ not (b && all p fs) in
    elim (p f) as at [ true ↦ none_lacks p fs | false ↦ refl ]

abbrev first_by : (Form → Bool) → List Form → Option Form
first_by whole [] = None
first_by whole (f ∷ fs) = cond (whole f) (Some f) (first_by whole fs)

turned : {X : Type 0} (b : Bool) (x y : X) → cond (not b) x y ≡ cond b y x
turned true x y = refl
turned false x y = refl

-- by the keys of an object's data
abbrev whole_in : Data → Form → Bool
whole_in d form = all (λ f. has (key_word f.0) d) (fields_of form)

module _ (ms : json.Members) (d : Data) (there : (w : List ℕ) → is_there (keys_of ms) w ≡ has w d) where
  by_data : (form : Form) → is_some (lacking (keys_of ms) form) ≡ not (whole_in d form)
  by_data form =
      let keys : all (λ f. is_there (keys_of ms) (key_word f.0)) (fields_of form) ≡ whole_in d form = λ i. all (λ f. there (key_word f.0) i) (fields_of form) in
      none_lacks (λ f. is_there (keys_of ms) (key_word f.0)) (fields_of form) ∙ ap not keys

  first_by_data : (fs : List Form) → first_whole (keys_of ms) fs ≡ first_by (whole_in d) fs
  first_by_data [] = refl
  first_by_data (form ∷ fs) =
      let both : cond (is_some (lacking (keys_of ms) form)) (first_whole (keys_of ms) fs) (Some form) ≡ cond (not (whole_in d form)) (first_by (whole_in d) fs) (Some form) =
      λ i. cond (by_data form i) (first_by_data fs i) (Some form) in
      both ∙ turned (whole_in d form) (first_by (whole_in d) fs) (Some form)

-- ---- how readers join their tests

one : (a : Bool) → (a && true) ≡ a
one true = refl
one false = refl

two : (a b : Bool) → (a && (b && true)) ≡ (a && b)
two true b = one b
two false b = refl

three : (a b c : Bool) → (a && (b && (c && true))) ≡ (a && (b && c))
three true b c = two b c
three false b c = refl

four_in_turn : (a b c d : Bool) → (a && (b && (c && (d && true)))) ≡ (a && (b && (c && d)))
four_in_turn true b c d = three b c d
four_in_turn false b c d = refl

four : (a b c d : Bool) → (a && (b && (c && (d && true)))) ≡ ((a && b) && (c && d))
four true b c d = three b c d
four false b c d = refl

five : (a b c d e : Bool) → (a && (b && (c && (d && (e && true))))) ≡ ((a && b) && (c && (d && e)))
five true b c d e = four_in_turn b c d e
five false b c d e = refl

-- what tables name is what a reader takes
record Names {F : Type 0} (named : F → Option Form) (first : Option Form) (taken : F) : Type 0 where
  same : first ≡ named taken

named_or : {F : Type 0} (named : F → Option Form) (c : Bool) (f next : F) → cond c (named f) (named next) ≡ named (cond c f next)
named_or named true f next = refl
named_or named false f next = refl

-- one form, and the forms behind it
step : {F : Type 0} (named : F → Option Form) (f : F) (b c : Bool) (rest : Option Form) (next : F) → b ≡ c → Names named rest next → Names named (cond b (named f) rest) (cond c f next)
step named f b c rest next e r =
    let both : cond b (named f) rest ≡ cond c (named f) (named next) = λ i. cond (e i) (named f) (r.same i) in
    record { same = both ∙ named_or named c f next }

no_contract : (b : Bool) → None ≡ case_named (cond b cases.Merkleized cases.Nothing)
no_contract true = refl
no_contract false = refl

-- ---- of an object

module _ (found : Members) where
  abbrev o : Data
  o = object found

  abbrev h : List ℕ → Bool
  h w = has w o

  contract_first : first_by (whole_in o) (forms_of sorts.Contract) ≡ contract_named (contract_form o)
  unfolding contract_form
  contract_first =
      let none : Names contract_named None contracts.Nothing = record { same = refl } in
      let from_4 = step contract_named contracts.Assert _ _ _ _ (two (h (codes "assert")) (h (codes "then"))) none in
      let from_3 = step contract_named contracts.Let _ _ _ _ (three (h (codes "let")) (h (codes "be")) (h (codes "then"))) from_4 in
      let from_2 = step contract_named contracts.When _ _ _ _ (three (h (codes "when")) (h (codes "timeout")) (h (codes "timeout_continuation"))) from_3 in
      let from_1 = step contract_named contracts.If _ _ _ _ (three (h (codes "if")) (h (codes "then")) (h (codes "else"))) from_2 in
      let from_0 = step contract_named contracts.Pay _ _ _ _ (five (h (codes "pay")) (h (codes "token")) (h (codes "from_account")) (h (codes "to")) (h (codes "then"))) from_1 in
      from_0.same

  action_first : first_by (whole_in o) (forms_of sorts.Action) ≡ action_named (action_form o)
  unfolding action_form
  action_first =
      let none : Names action_named None actions.Nothing = record { same = refl } in
      let from_2 = step action_named actions.Notify _ _ _ _ (one (h (codes "notify_if"))) none in
      let from_1 = step action_named actions.Choice _ _ _ _ (two (h (codes "for_choice")) (h (codes "choose_between"))) from_2 in
      let from_0 = step action_named actions.Deposit _ _ _ _ (four (h (codes "party")) (h (codes "deposits")) (h (codes "of_token")) (h (codes "into_account"))) from_1 in
      from_0.same

  value_first : first_by (whole_in o) (forms_of sorts.Value) ≡ value_named (value_form o)
  unfolding value_form
  value_first =
      let none : Names value_named None values.Nothing = record { same = refl } in
      let from_8 = step value_named values.Cond _ _ _ _ (three (h (codes "if")) (h (codes "then")) (h (codes "else"))) none in
      let from_7 = step value_named values.UseValue _ _ _ _ (one (h (codes "use_value"))) from_8 in
      let from_6 = step value_named values.ChoiceValue _ _ _ _ (one (h (codes "value_of_choice"))) from_7 in
      let from_5 = step value_named values.DivValue _ _ _ _ (two (h (codes "divide")) (h (codes "by"))) from_6 in
      let from_4 = step value_named values.MulValue _ _ _ _ (two (h (codes "multiply")) (h (codes "times"))) from_5 in
      let from_3 = step value_named values.SubValue _ _ _ _ (two (h (codes "value")) (h (codes "minus"))) from_4 in
      let from_2 = step value_named values.AddValue _ _ _ _ (two (h (codes "add")) (h (codes "and"))) from_3 in
      let from_1 = step value_named values.NegValue _ _ _ _ (one (h (codes "negate"))) from_2 in
      let from_0 = step value_named values.AvailableMoney _ _ _ _ (two (h (codes "amount_of_token")) (h (codes "in_account"))) from_1 in
      from_0.same

  observation_first : first_by (whole_in o) (forms_of sorts.Observation) ≡ observation_named (observation_form o)
  unfolding observation_form
  observation_first =
      let none : Names observation_named None observations.Nothing = record { same = refl } in
      let from_8 = step observation_named observations.ValueEQ _ _ _ _ (two (h (codes "value")) (h (codes "equal_to"))) none in
      let from_7 = step observation_named observations.ValueLE _ _ _ _ (two (h (codes "value")) (h (codes "le_than"))) from_8 in
      let from_6 = step observation_named observations.ValueLT _ _ _ _ (two (h (codes "value")) (h (codes "lt"))) from_7 in
      let from_5 = step observation_named observations.ValueGT _ _ _ _ (two (h (codes "value")) (h (codes "gt"))) from_6 in
      let from_4 = step observation_named observations.ValueGE _ _ _ _ (two (h (codes "value")) (h (codes "ge_than"))) from_5 in
      let from_3 = step observation_named observations.ChoseSomething _ _ _ _ (one (h (codes "chose_something_for"))) from_4 in
      let from_2 = step observation_named observations.NotObs _ _ _ _ (one (h (codes "not"))) from_3 in
      let from_1 = step observation_named observations.OrObs _ _ _ _ (two (h (codes "either")) (h (codes "or"))) from_2 in
      let from_0 = step observation_named observations.AndObs _ _ _ _ (two (h (codes "both")) (h (codes "and"))) from_1 in
      from_0.same

  input_first : first_by (whole_in o) (forms_of sorts.Input) ≡ input_named (input_form o)
  unfolding input_form
  input_first =
      let none : Names input_named None inputs.Nothing = record { same = refl } in
      let from_1 = step input_named inputs.Choice _ _ _ _ (two (h (codes "for_choice_id")) (h (codes "input_that_chooses_num"))) none in
      let from_0 = step input_named inputs.Deposit _ _ _ _ (four (h (codes "input_from_party")) (h (codes "that_deposits")) (h (codes "of_token")) (h (codes "into_account"))) from_1 in
      from_0.same

  case_first : first_by (whole_in o) (forms_of sorts.Case) ≡ case_named (case_form o)
  unfolding case_form
  case_first =
      let c = h (codes "case") && h (codes "merkleized_then") in
      let none : Names case_named None (cond c cases.Merkleized cases.Nothing) = record { same = no_contract c } in
      let plain = step case_named cases.Plain _ _ _ _ (two (h (codes "case")) (h (codes "then"))) none in
      plain.same

-- the data of an object is an object
object_of : (ms : json.Members) (d : Data) (m : Option Members) → of_members ms no_members ≡ m → option_map object m ≡ Some d → (found : Members) × (of_members ms no_members ≡ Some found) × (object found ≡ d)
object_of ms d None e h = absurd (cc)
object_of ms d (Some found) e h = (found, e, ap (content (object found)) h)

abbrev Agree : json.Members → Data → Type 0
Agree ms d =
    (form_of sorts.Contract (keys_of ms) ≡ contract_named (contract_form d))
    × (form_of sorts.Case (keys_of ms) ≡ case_named (case_form d))
    × (form_of sorts.Action (keys_of ms) ≡ action_named (action_form d))
    × (form_of sorts.Value (keys_of ms) ≡ value_named (value_form d))
    × (form_of sorts.Observation (keys_of ms) ≡ observation_named (observation_form d))
    × (form_of sorts.Input (keys_of ms) ≡ input_named (input_form d))

agree : (ms : json.Members) (found : Members) → of_members ms no_members ≡ Some found → Agree ms (object found)
agree ms found e =
    let there : (w : List ℕ) → is_there (keys_of ms) w ≡ has w (object found) = λ w. sym (members_there w ms no_members found e ∙ or_false (is_there (keys_of ms) w)) in (
      first_by_data ms (object found) there (forms_of sorts.Contract) ∙ contract_first found,
      first_by_data ms (object found) there (forms_of sorts.Case) ∙ case_first found,
      first_by_data ms (object found) there (forms_of sorts.Action) ∙ action_first found,
      first_by_data ms (object found) there (forms_of sorts.Value) ∙ value_first found,
      first_by_data ms (object found) there (forms_of sorts.Observation) ∙ observation_first found,
      first_by_data ms (object found) there (forms_of sorts.Input) ∙ input_first found,
    )

pub readers_take_these_forms : ReadersTakeTheseForms
readers_take_these_forms ms d e =
    let made = object_of ms d (of_members ms no_members) refl e in
    subst (Agree ms) made.2 (agree ms made.0 made.1)
