-- The names that code keeps are those of what is there.
use Rattle.std.proofs.Common.{◌≡◌, ℕ, ◌+◌, ◌<◌, Bool, true, false, cond, List, [], ◌∷◌, ◌++◌, length, Option, Some, None, Result, Ok, Err, refl, sym, ap, ◌∙◌, subst, arith}
use Rattle.std.specs.Prelude.{nat_lt, ◌&&◌, codes, is_some, option_map, option_and_then, if◌then◌else◌}
use Rattle.std.proofs.lemmas.Bool.Decides.{nat_tests}
use Rattle.std.proofs.lemmas.List.{length-append}
use Rattle.std.specs.BTreeMap.{get_by_text}
use Rattle.contract.specs.Names.Equal.{same_text}
use Rattle.serde_json.specs.Data.{Data}
use Rattle.serde_json.specs.Find.{get, as_str}
use Rattle.contract.specs.Collections.Answers.{◌>>=◌}
use Rattle.plans.specs.declared.plan.Plan.{Plan}
use Rattle.plans.specs.declared.scenario.NamedContract.{NamedContract}
use Rattle.plans.specs.declared.scenario.NamedThread.{NamedThread}
use Rattle.json_read_names.specs.Forms.{has_two, has_three}
use Rattle.json_read_names.specs.Parts.{Reading, needed, reading_at, text, bytes, list}
use Rattle.json_read_contracts.specs.ReadsContract as contracts
use Rattle.json_read_names.specs.declared.fault.JsonFault.{JsonFault}
use Rattle.json_read_names.specs.declared.fault.JsonFault.TheVariants.{NoForm}
use Rattle.json_read_scenarios.specs.Names.{place_of, known, new_name}
use Rattle.json_read_scenarios.specs.ReadsPlan.{contract_name, thread_name, plan_name, calls, if_there, intent, plan}
use Rattle.json_read_scenarios.specs.ReadsScenario.{contract, first_state, new_thread}
use Rattle.json_forms.specs.declared.form.Form.TheVariants as forms
use Rattle.json_forms.specs.declared.sort.NamedSort.{NamedSort}
use Rattle.json_forms.specs.declared.sort.NamedSort.TheVariants as named
use Rattle.json_forms.specs.declared.sort.ScenarioSort.{ScenarioSort}
use Rattle.json_forms.specs.declared.sort.ScenarioSort.TheVariants as parts
use Rattle.json_forms.specs.declared.sort.Sort.TheVariants as sorts
use Rattle.json_stops.specs.Stops.{fault_of}
use Rattle.scenario_stops.specs.declared.form.Shape.{Shape}
use Rattle.scenario_stops.specs.declared.form.Shape.TheVariants.{Single}
use Rattle.scenario_stops.specs.declared.known.Names.{Names}
use Rattle.scenario_stops.specs.There.{There, nothing, with_contracts, with_threads, with_plans, or_same, after}
use Rattle.scenario_stops.specs.Faults.{own_fault, new_fault, name_fault}
use Rattle.scenario_stops.specs.Parts.{one_form, single, shape_in, start}
use Rattle.scenario_stops.specs.Stops.{name_in}
use Rattle.scenario_stops.specs.StopsSupport.{NamesAre, Leaves, has_name, Puts, Added, new_if, known_if, new_shape, name_shape, shape_for}

-- ---- shapes by names

new_is : (o : Option ℕ) (name : List ℕ) → new_if (is_some o) ≡ single (fault_of (if is_some o then Err NoForm else Ok name))
new_is None name = refl
new_is (Some n) name = refl

known_is : (o : Option ℕ) → known_if (is_some o) ≡ single (fault_of (needed o))
known_is None = refl
known_is (Some n) = refl

module _ {X : Type 0} (name_of : X → List ℕ) (xs : List X) (has : List ℕ → Bool) (agree : (name : List ℕ) → has name ≡ is_some (place_of name_of name xs)) where
  new_by : (r : Reading (List ℕ)) → (r >>= λ name. new_if (has name)) ≡ single (fault_of (r >>= λ name. if is_some (place_of name_of name xs) then Err NoForm else Ok name))
  new_by (Ok name) = ap new_if (agree name) ∙ new_is (place_of name_of name xs) name
  new_by (Err f) = refl

  known_by : (r : Reading (List ℕ)) → (r >>= λ name. known_if (has name)) ≡ single (fault_of (r >>= λ name. needed (place_of name_of name xs)))
  known_by (Ok name) = ap known_if (agree name) ∙ known_is (place_of name_of name xs)
  known_by (Err f) = refl

new_shape_is : (names : Names) (t : There) (kind : NamedSort) (d : Data) → NamesAre names t → new_shape names kind d ≡ single (new_fault kind t d)
new_shape_is names t named.Contract d are = new_by contract_name t.contracts (has_name named.Contract names) are.contracts (text d)
new_shape_is names t named.Thread d are = new_by thread_name t.threads (has_name named.Thread names) are.threads (text d)
new_shape_is names t named.Plan d are = new_by plan_name t.plans (has_name named.Plan names) are.plans (text d)

name_shape_is : (names : Names) (t : There) (kind : NamedSort) (d : Data) → NamesAre names t → name_shape names kind d ≡ single (name_fault kind t d)
name_shape_is names t named.Contract d are = known_by contract_name t.contracts (has_name named.Contract names) are.contracts (text d)
name_shape_is names t named.Thread d are = known_by thread_name t.threads (has_name named.Thread names) are.threads (text d)
name_shape_is names t named.Plan d are = known_by plan_name t.plans (has_name named.Plan names) are.plans (text d)

pub shape_is : (part : ScenarioSort) (names : Names) (t : There) (d : Data) → NamesAre names (start part t) → shape_for names part d ≡ shape_in part t d
shape_is parts.Scenario names t d are = refl
shape_is parts.Genesis names t d are = refl
shape_is parts.Funds names t d are = refl
shape_is parts.Contracts names t d are = refl
shape_is parts.NamedContract names t d are = refl
shape_is parts.Threads names t d are = refl
shape_is parts.NamedThread names t d are = refl
shape_is parts.Plans names t d are = refl
shape_is parts.Plan names t d are =
    ap (λ n. one_form (nat_lt n 63 && has_two (codes "name") (codes "keys") d && has_two (codes "change") (codes "intents") d) forms.Plan) are.count
shape_is parts.PlanKeys names t d are = refl
shape_is parts.Intents names t d are = refl
shape_is parts.Intent names t d are = refl
shape_is parts.Steps names t d are = refl
shape_is parts.OneStep names t d are = refl
shape_is (parts.NewName kind) names t d are = new_shape_is names t kind d are
shape_is (parts.NameOf kind) names t d are = name_shape_is names t kind d are
shape_is parts.Count names t d are = refl
shape_is parts.Workers names t d are = refl
shape_is parts.Calls names t d are = refl
shape_is parts.Truth names t d are = refl

-- ---- one name more

some_later : (o : Option ℕ) → is_some (option_map (λ n. n + 1) o) ≡ is_some o
some_later None = refl
some_later (Some n) = refl

module _ {X : Type 0} (name_of : X → List ℕ) where
  last_found : (b : Bool) → is_some (if b then Some 0 else option_map (λ n. n + 1) None) ≡ cond b true false
  last_found true = refl
  last_found false = refl

  or_before : (b c : Bool) (p q : Option ℕ) → is_some p ≡ cond b true (is_some q)
      → is_some (if c then Some 0 else option_map (λ n. n + 1) p) ≡ cond b true (is_some (if c then Some 0 else option_map (λ n. n + 1) q))
  or_before true true p q e = refl
  or_before false true p q e = refl
  or_before true false p q e = some_later p ∙ e
  or_before false false p q e = some_later p ∙ e ∙ sym (some_later q)

  -- a name that the new one has, or one before it
  found_more : (xs : List X) (x : X) (name : List ℕ) → is_some (place_of name_of name (xs ++ x ∷ [])) ≡ cond (same_text (name_of x) name) true (is_some (place_of name_of name xs))
  found_more [] x name = last_found (same_text (name_of x) name)
  found_more (y ∷ xs) x name =
      or_before (same_text (name_of x) name) (same_text (name_of y) name) (place_of name_of name (xs ++ x ∷ [])) (place_of name_of name xs) (found_more xs x name)

  some_if : (b : Bool) (o : Option Bool) → is_some (if b then Some true else o) ≡ cond b true (is_some o)
  some_if true o = refl
  some_if false o = refl

  put_more : (xs : List X) (x : X) (old new : List ℕ → Option Bool) → Puts (name_of x) old new → ((name : List ℕ) → is_some (old name) ≡ is_some (place_of name_of name xs))
      → (name : List ℕ) → is_some (new name) ≡ is_some (place_of name_of name (xs ++ x ∷ []))
  put_more xs x old new puts agree name =
      ap is_some (puts name) ∙ some_if (same_text (name_of x) name) (old name) ∙ ap (cond (same_text (name_of x) name) true) (agree name) ∙ sym (found_more xs x name)

-- ---- the name of what is read

first_kept : {A B : Type 0} (q : Reading A) (rest : A → Reading B) (name : B → A) (b : B) → ((a : A) → rest a ≡ Ok b → a ≡ name b) → (q >>= rest) ≡ Ok b → q ≡ Ok (name b)
first_kept (Ok a) rest name b kept e = ap Ok (kept a e)
first_kept (Err f) rest name b kept e = absurd (cc)

passed : {A B : Type 0} (P : Type 0) (q : Reading A) (rest : A → Reading B) (b : B) → ((a : A) → rest a ≡ Ok b → P) → (q >>= rest) ≡ Ok b → P
passed P (Ok a) rest b kept e = kept a e
passed P (Err f) rest b kept e = absurd (cc)

if_true : {B : Type 0} (c : Bool) (r : Reading B) (b : B) → (if c then r else Err NoForm) ≡ Ok b → r ≡ Ok b
if_true true r b e = e
if_true false r b e = absurd (cc)

-- a new name is the text that stands at its key
text_of : (o : Option Data) (taken : List ℕ → Bool) (name : List ℕ) → (needed o >>= (λ e. text e >>= λ n. if taken n then Err NoForm else Ok n)) ≡ Ok name → option_and_then as_str o ≡ Some name
text_of None taken name e = absurd (cc)
text_of (Some e) taken name is =
    elim (as_str e) as (λ o. (needed o >>= λ n. if taken n then Err NoForm else Ok n) ≡ Ok name → o ≡ Some name) [
      | None ↦ λ h. absurd (cc)
      | Some n ↦ λ h. elim (taken n) as (λ b. (if b then Err NoForm else Ok n) ≡ Ok name → Some n ≡ Some name) [
        | true ↦ λ h. absurd (cc)
        | false ↦ λ h. cc
      ] h
    ] is

abbrev result_name : {X : Type 0} → (X → List ℕ) → Reading X → List ℕ
result_name name_of (Ok x) = name_of x
result_name name_of (Err f) = []

contract_named : (before : List NamedContract) (d : Data) (x : NamedContract) → contract before d ≡ Ok x → name_in d ≡ Some x.name
contract_named before d x e =
    text_of (get (codes "name") d) (λ n. is_some (place_of contract_name n before)) x.name
    (first_kept (reading_at (new_name contract_name before) d (codes "name")) _ contract_name x
    (λ name h. passed (name ≡ x.name) (reading_at bytes d (codes "currency")) _ x
    (λ currency h. passed (name ≡ x.name) (reading_at contracts.contract d (codes "contract")) _ x (λ k h. ap (result_name contract_name) h) h) h)
    (if_true (has_three (codes "name") (codes "currency") (codes "contract") d) _ x e))

thread_named : (contracts : List NamedContract) (before : List NamedThread) (d : Data) (x : NamedThread) → new_thread contracts before d ≡ Ok x → name_in d ≡ Some x.name
thread_named contracts before d x e =
    text_of (get (codes "name") d) (λ n. is_some (place_of thread_name n before)) x.name
    (first_kept (reading_at (new_name thread_name before) d (codes "name")) _ thread_name x
    (λ name h. passed (name ≡ x.name) (reading_at (known contract_name contracts) d (codes "contract")) _ x
    (λ contract h. passed (name ≡ x.name) (reading_at text d (codes "by")) _ x
    (λ by h. passed (name ≡ x.name) (first_state d) _ x (λ s h. ap (result_name thread_name) h) h) h) h)
    (if_true (has_three (codes "name") (codes "contract") (codes "by") d && has_two (codes "accounts") (codes "minTime") d) _ x e))

abbrev plan_test : List (Plan ℕ ℕ) → Data → Bool
plan_test before d = nat_lt (length before) 63 && has_two (codes "name") (codes "keys") d && has_two (codes "change") (codes "intents") d

plan_named : (contracts : List NamedContract) (threads : List NamedThread) (before : List (Plan ℕ ℕ)) (d : Data) (x : Plan ℕ ℕ) → plan contracts threads before d ≡ Ok x → name_in d ≡ Some x.name
plan_named contracts threads before d x e =
    text_of (get (codes "name") d) (λ n. is_some (place_of plan_name n before)) x.name
    (first_kept (reading_at (new_name plan_name before) d (codes "name")) _ plan_name x
    (λ name h. passed (name ≡ x.name) (reading_at (list text) d (codes "keys")) _ x
    (λ keys h. passed (name ≡ x.name) (reading_at text d (codes "change")) _ x
    (λ change h. passed (name ≡ x.name) (reading_at (list (intent contracts threads)) d (codes "intents")) _ x
    (λ intents h. passed (name ≡ x.name) (if_there calls d (codes "stop_after")) _ x (λ s h. ap (result_name plan_name) h) h) h) h) h)
    (if_true (plan_test before d) _ x e))

test_true : {B : Type 0} (c : Bool) (r : Reading B) (b : B) → (if c then r else Err NoForm) ≡ Ok b → c ≡ true
test_true true r b e = refl
test_true false r b e = absurd (cc)

first_true : (a b : Bool) → (a && b) ≡ true → a ≡ true
first_true true b e = refl
first_true false b e = absurd (cc)

below_it : (n m : ℕ) → nat_lt n m ≡ true → n < m
below_it n m e = grind (arith, nat_tests)

plan_below : (contracts : List NamedContract) (threads : List NamedThread) (before : List (Plan ℕ ℕ)) (d : Data) (x : Plan ℕ ℕ) → plan contracts threads before d ≡ Ok x → length before < 63
plan_below contracts threads before d x e =
    below_it (length before) 63
    (first_true (nat_lt (length before) 63) (has_two (codes "name") (codes "keys") d)
    (first_true (nat_lt (length before) 63 && has_two (codes "name") (codes "keys") d) (has_two (codes "change") (codes "intents") d) (test_true (plan_test before d) _ x e)))

-- ---- what is read adds its name

module _ (old new : Names) (d : Data) (o : Option (List ℕ)) (t : There) (are : NamesAre old t) (of : o ≡ name_in d) where
  contract_added : (r : Reading NamedContract) → contract t.contracts d ≡ r → fault_of r ≡ None → Added named.Contract o old new
      → NamesAre new (or_same t (r >>= λ c. Ok (with_contracts t (t.contracts ++ c ∷ []))))
  contract_added (Ok x) is fine added =
      let a = subst (λ p. Added named.Contract p old new) (of ∙ contract_named t.contracts d x is) added in
      record {
        contracts = put_more contract_name t.contracts x (get_by_text old.contracts) (get_by_text new.contracts) a.0 are.contracts;
        threads = λ name. ap (λ m. is_some (get_by_text m name)) a.1 ∙ are.threads name;
        plans = λ name. ap (λ m. is_some (get_by_text m name)) a.2 ∙ are.plans name;
        count = a.3 ∙ are.count;
      }
  contract_added (Err f) is fine added = absurd (cc)

  thread_added : (r : Reading NamedThread) → new_thread t.contracts t.threads d ≡ r → fault_of r ≡ None → Added named.Thread o old new
      → NamesAre new (or_same t (r >>= λ n. Ok (with_threads t (t.threads ++ n ∷ []))))
  thread_added (Ok x) is fine added =
      let a = subst (λ p. Added named.Thread p old new) (of ∙ thread_named t.contracts t.threads d x is) added in
      record {
        contracts = λ name. ap (λ m. is_some (get_by_text m name)) a.1 ∙ are.contracts name;
        threads = put_more thread_name t.threads x (get_by_text old.threads) (get_by_text new.threads) a.0 are.threads;
        plans = λ name. ap (λ m. is_some (get_by_text m name)) a.2 ∙ are.plans name;
        count = a.3 ∙ are.count;
      }
  thread_added (Err f) is fine added = absurd (cc)

  plan_added : (r : Reading (Plan ℕ ℕ)) → plan t.contracts t.threads t.plans d ≡ r → fault_of r ≡ None → Added named.Plan o old new
      → NamesAre new (or_same t (r >>= λ p. Ok (with_plans t (t.plans ++ p ∷ []))))
  plan_added (Ok x) is fine added =
      let a = subst (λ p. Added named.Plan p old new) (of ∙ plan_named t.contracts t.threads t.plans d x is) added in
      let same = are.count in
      let few : length t.plans < 63 = plan_below t.contracts t.threads t.plans d x is in
      let small : old.plan_count < 63 = omega (arith, same, few) in
      let long : length (t.plans ++ x ∷ []) ≡ length t.plans + 1 = length-append t.plans (x ∷ []) in
      record {
        contracts = λ name. ap (λ m. is_some (get_by_text m name)) a.1 ∙ are.contracts name;
        threads = λ name. ap (λ m. is_some (get_by_text m name)) a.2 ∙ are.threads name;
        plans = put_more plan_name t.plans x (get_by_text old.plans) (get_by_text new.plans) a.0 are.plans;
        count = a.3 small ∙ ap (λ n. n + 1) same ∙ sym long;
      }
  plan_added (Err f) is fine added = absurd (cc)

-- as code has it
abbrev pub Kept : ScenarioSort → Names → Names → Option (List ℕ) → Type 0
Kept part old new o = (t : There) (d : Data) → o ≡ name_in d → Leaves part old t d → own_fault part t d ≡ None → NamesAre new (after (sorts.OfScenario part) t d)

pub contract_kept : (part : ScenarioSort) (old new : Names) (o : Option (List ℕ)) → part ≡ parts.NamedContract → Added named.Contract o old new → Kept part old new o
contract_kept part old new o is added =
    subst (λ p. Kept p old new o) (sym is) (λ t d of are fine. contract_added old new d o t are of (contract t.contracts d) refl fine added)

pub thread_kept : (part : ScenarioSort) (old new : Names) (o : Option (List ℕ)) → part ≡ parts.NamedThread → Added named.Thread o old new → Kept part old new o
thread_kept part old new o is added =
    subst (λ p. Kept p old new o) (sym is) (λ t d of are fine. thread_added old new d o t are of (new_thread t.contracts t.threads d) refl fine added)

pub plan_kept : (part : ScenarioSort) (old new : Names) (o : Option (List ℕ)) → part ≡ parts.Plan → Added named.Plan o old new → Kept part old new o
plan_kept part old new o is added =
    subst (λ p. Kept p old new o) (sym is) (λ t d of are fine. plan_added old new d o t are of (plan t.contracts t.threads t.plans d) refl fine added)
