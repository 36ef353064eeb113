-- The fault of a value of each sort, by those of its parts.
use Rattle.std.proofs.Common.{◌≡◌, ℕ, ℤ, List, [], ◌∷◌, length, Bool, true, false, Option, Some, None, Ok, Err, refl, sym, ap, ◌∙◌, subst}
use Rattle.std.specs.Prelude.{nat_lt, ◌&&◌, codes, if◌then◌else◌}
use Rattle.std.specs.Option.{unwrap_or}
use Rattle.std.specs.FinMap.{FinMap, empty}
use Rattle.serde_json.specs.Data.{Data}
use Rattle.serde_json.specs.Find.{as_array}
use Rattle.contract.specs.Collections.Answers.{◌>>=◌}
use Rattle.contract.specs.Names.Orders.{account_cmp, token_cmp}
use Rattle.contract.specs.States.States.{StateMaps}
use Rattle.contract.specs.declared.tree.Contract.{Contract}
use Rattle.contract.specs.declared.input.Input.{Input}
use Rattle.contract.specs.declared.interval.Interval.{Interval}
use Rattle.plans.specs.declared.intent.Intent.{Intent}
use Rattle.plans.specs.declared.intent.Intent.TheVariants as made
use Rattle.plans.specs.declared.plan.Plan.{Plan}
use Rattle.plans.specs.declared.scenario.Funds.{Funds}
use Rattle.plans.specs.declared.scenario.NamedContract.{NamedContract}
use Rattle.plans.specs.declared.scenario.NamedThread.{NamedThread}
use Rattle.plans.specs.declared.scenario.Scenario.{Scenario}
use Rattle.json_read_names.specs.Forms.{has, has_two, has_three}
use Rattle.json_read_names.specs.Parts.{Reading, needed, reading_at, text, bytes, time, list}
use Rattle.json_read_names.specs.declared.fault.JsonFault.TheVariants.{NoForm}
use Rattle.json_read_contracts.specs.ReadsContract as contracts
use Rattle.json_read_inputs.specs.ReadsInput.{input, interval}
use Rattle.json_read_inputs.specs.ReadsState.{account_row, amount_row, rows}
use Rattle.json_read_scenarios.specs.Names.{known, new_name, one_by_one, list_in_turn}
use Rattle.json_read_scenarios.specs.ReadsPlan.{contract_name, thread_name, plan_name, count, workers, calls, truth, if_there, step_item, intent_form, intent_by, intent, plan}
use Rattle.json_read_scenarios.specs.ReadsScenario.{funds, contract, first_state, new_thread, scenario}
use Rattle.json_read_scenarios.specs.declared.intent_forms.IntentForm.{IntentForm}
use Rattle.json_read_scenarios.specs.declared.intent_forms.IntentForm.TheVariants as intents
use Rattle.json_forms.specs.declared.form.Form.TheVariants as forms
use Rattle.json_forms.specs.declared.key.Key.TheVariants as keys
use Rattle.json_forms.specs.declared.sort.NamedSort.TheVariants as named
use Rattle.json_forms.specs.declared.sort.Numbers.TheVariants as numbers
use Rattle.json_forms.specs.declared.sort.ScenarioSort.{ScenarioSort}
use Rattle.json_forms.specs.declared.sort.ScenarioSort.TheVariants as parts
use Rattle.json_forms.specs.declared.sort.Sort.TheVariants as sorts
use Rattle.json_forms.specs.Forms.{Field}
use Rattle.json_stops.specs.Stops.{fault_of}
use Rattle.scenario_stops.specs.declared.form.Shape.TheVariants.{FormOf}
use Rattle.scenario_stops.specs.There.{There, nothing, with_contracts, with_threads, with_plans, in_turn, or_same, after}
use Rattle.scenario_stops.specs.Faults.{own_fault}
use Rattle.scenario_stops.specs.Parts.{one_form, intent_shape, shape_in, start}
use Rattle.scenario_stops.specs.StopsSupport.{behind_fault, perhaps_fault, fault_by}
use Rattle.scenario_stops.proofs.ChainLemmas.{made_fault, key_then, more_then, from_field, to_field, interval_then, single_is, list_is}
use Rattle.scenario_stops.proofs.TurnLemmas.{turn_list, contracts_in_turn, threads_in_turn, plans_in_turn}

-- ---- what is made
abbrev made_funds : List ℕ → FinMap token_cmp ℤ → Funds
made_funds address amount = record { address = address; amount = amount }

abbrev made_state : FinMap account_cmp ℤ → ℤ → StateMaps
made_state accounts min_time = record { accounts = accounts; choices = empty; bound_values = empty; min_time = min_time }

abbrev made_contract : List ℕ → List ℕ → Contract → NamedContract
made_contract name currency contract = record { name = name; currency = currency; contract = contract }

abbrev made_thread : List ℕ → ℕ → List ℕ → StateMaps → NamedThread
made_thread name contract by state = record { name = name; contract = contract; by = by; state = state }

abbrev made_plan : List ℕ → List (List ℕ) → List ℕ → List (Intent ℕ ℕ) → Option ℕ → Plan ℕ ℕ
made_plan name keys change intents stop_after = record { name = name; keys = keys; change = change; intents = intents; stop_after = stop_after }

abbrev made_step : ℕ → List Input → Interval → Option Bool → Intent ℕ ℕ
made_step thread inputs interval pooled = made.Step thread inputs interval (unwrap_or pooled false)

abbrev made_steps : List (ℕ × List Input) → Interval → Option Bool → Intent ℕ ℕ
made_steps steps interval pooled = made.Steps steps interval (unwrap_or pooled false)

-- ---- forms

module _ (t : There) (d : Data) where
  funds_fault : (b : Bool)
      → fault_of (if b then (reading_at text d (codes "address") >>= λ address. reading_at (rows token_cmp amount_row) d (codes "amount") >>= λ amount. Ok (made_funds address amount)) else Err NoForm)
      ≡ fault_by (one_form b forms.Funds) t d
  unfolding one_form
  funds_fault true =
      key_then t d (keys.Address, sorts.Text) ((keys.Amount, sorts.Amounts) ∷ []) None text _ (λ e. refl)
      (λ e a is. key_then t d (keys.Amount, sorts.Amounts) [] None (rows token_cmp amount_row) _ (λ e. refl) (λ e b is. refl))
  funds_fault false = refl

  contract_fault : (b : Bool)
      → fault_of (if b then (reading_at (new_name contract_name t.contracts) d (codes "name") >>= λ x0. reading_at bytes d (codes "currency") >>= λ x1. reading_at contracts.contract d (codes "contract") >>= λ x2. Ok (made_contract x0 x1 x2)) else Err NoForm)
      ≡ fault_by (one_form b forms.NamedContract) t d
  unfolding one_form
  contract_fault true =
      key_then t d (keys.Name, sorts.OfScenario (parts.NewName named.Contract)) ((keys.Currency, sorts.Hex) ∷ (keys.Contract, sorts.Contract) ∷ []) None (new_name contract_name t.contracts) _ (λ e. refl)
      (λ e x0 is. key_then t d (keys.Currency, sorts.Hex) ((keys.Contract, sorts.Contract) ∷ []) None bytes _ (λ e. refl)
      (λ e x1 is. key_then t d (keys.Contract, sorts.Contract) [] None contracts.contract _ (λ e. refl)
      (λ e x2 is. refl)))
  contract_fault false = refl

  -- the state with which a thread starts
  state_then : (make : StateMaps → NamedThread)
      → fault_of (first_state d >>= λ s. Ok (make s)) ≡ behind_fault t d ((keys.Accounts, sorts.Accounts numbers.Whole) ∷ (keys.MinTime, sorts.Time) ∷ []) None
  state_then make =
      made_fault (first_state d) make
      ∙ key_then t d (keys.Accounts, sorts.Accounts numbers.Whole) ((keys.MinTime, sorts.Time) ∷ []) None (rows account_cmp account_row) _ (λ e. refl)
      (λ e x0 is. key_then t d (keys.MinTime, sorts.Time) [] None time _ (λ e. refl)
      (λ e x1 is. refl))

  thread_fault : (b : Bool)
      → fault_of (if b then (reading_at (new_name thread_name t.threads) d (codes "name") >>= λ x0. reading_at (known contract_name t.contracts) d (codes "contract") >>= λ x1. reading_at text d (codes "by") >>= λ x2. first_state d >>= λ s. Ok (made_thread x0 x1 x2 s)) else Err NoForm)
      ≡ fault_by (one_form b forms.NamedThread) t d
  unfolding one_form
  thread_fault true =
      key_then t d (keys.Name, sorts.OfScenario (parts.NewName named.Thread)) ((keys.Contract, sorts.OfScenario (parts.NameOf named.Contract)) ∷ (keys.By, sorts.Text) ∷ (keys.Accounts, sorts.Accounts numbers.Whole) ∷ (keys.MinTime, sorts.Time) ∷ []) None (new_name thread_name t.threads) _ (λ e. refl)
      (λ e x0 is. key_then t d (keys.Contract, sorts.OfScenario (parts.NameOf named.Contract)) ((keys.By, sorts.Text) ∷ (keys.Accounts, sorts.Accounts numbers.Whole) ∷ (keys.MinTime, sorts.Time) ∷ []) None (known contract_name t.contracts) _ (λ e. refl)
      (λ e x1 is. key_then t d (keys.By, sorts.Text) ((keys.Accounts, sorts.Accounts numbers.Whole) ∷ (keys.MinTime, sorts.Time) ∷ []) None text _ (λ e. refl)
      (λ e x2 is. state_then (made_thread x0 x1 x2))))
  thread_fault false = refl

  plan_fault : (b : Bool)
      → fault_of (if b then (reading_at (new_name plan_name t.plans) d (codes "name") >>= λ x0. reading_at (list text) d (codes "keys") >>= λ x1. reading_at text d (codes "change") >>= λ x2. reading_at (list (intent t.contracts t.threads)) d (codes "intents") >>= λ x3. if_there calls d (codes "stop_after") >>= λ s. Ok (made_plan x0 x1 x2 x3 s)) else Err NoForm)
      ≡ fault_by (one_form b forms.Plan) t d
  unfolding one_form
  plan_fault true =
      key_then t d (keys.Name, sorts.OfScenario (parts.NewName named.Plan)) ((keys.Keys, sorts.OfScenario parts.PlanKeys) ∷ (keys.Change, sorts.Text) ∷ (keys.Intents, sorts.OfScenario parts.Intents) ∷ []) (Some (keys.StopAfter, sorts.OfScenario parts.Calls)) (new_name plan_name t.plans) _ (λ e. refl)
      (λ e x0 is. key_then t d (keys.Keys, sorts.OfScenario parts.PlanKeys) ((keys.Change, sorts.Text) ∷ (keys.Intents, sorts.OfScenario parts.Intents) ∷ []) (Some (keys.StopAfter, sorts.OfScenario parts.Calls)) (list text) _ (λ e. refl)
      (λ e x1 is. key_then t d (keys.Change, sorts.Text) ((keys.Intents, sorts.OfScenario parts.Intents) ∷ []) (Some (keys.StopAfter, sorts.OfScenario parts.Calls)) text _ (λ e. refl)
      (λ e x2 is. key_then t d (keys.Intents, sorts.OfScenario parts.Intents) [] (Some (keys.StopAfter, sorts.OfScenario parts.Calls)) (list (intent t.contracts t.threads)) _ (λ e. refl)
      (λ e x3 is. more_then t d (keys.StopAfter, sorts.OfScenario parts.Calls) calls (made_plan x0 x1 x2 x3) (λ e. refl)))))
  plan_fault false = refl

  one_step_fault : fault_of (step_item t.threads d) ≡ fault_by (Ok (FormOf forms.OneStep)) t d
  unfolding step_item
  one_step_fault =
      key_then t d (keys.Step, sorts.OfScenario (parts.NameOf named.Thread)) ((keys.Inputs, sorts.Inputs) ∷ []) None (known thread_name t.threads) _ (λ e. refl)
      (λ e x0 is. key_then t d (keys.Inputs, sorts.Inputs) [] None (list input) _ (λ e. refl)
      (λ e x1 is. refl))

  -- an intent that has an interval has its keys
  abbrev HasInterval : IntentForm → Type 0
  HasInterval intents.Step = has_two (codes "from") (codes "to") d ≡ true
  HasInterval intents.Steps = has_two (codes "from") (codes "to") d ≡ true
  HasInterval intents.Claim = has_two (codes "from") (codes "to") d ≡ true
  HasInterval other = Unit {0}

  intent_fault_by : (form : IntentForm) → HasInterval form → fault_of (intent_by form t.contracts t.threads d) ≡ fault_by (intent_shape form) t d
  unfolding intent_by
  intent_fault_by intents.Step there =
      key_then t d (keys.Step, sorts.OfScenario (parts.NameOf named.Thread)) ((keys.Inputs, sorts.Inputs) ∷ (keys.From, sorts.Time) ∷ (keys.To, sorts.Time) ∷ []) (Some (keys.Pool, sorts.OfScenario parts.Truth)) (known thread_name t.threads) _ (λ e. refl)
      (λ e x0 is. key_then t d (keys.Inputs, sorts.Inputs) ((keys.From, sorts.Time) ∷ (keys.To, sorts.Time) ∷ []) (Some (keys.Pool, sorts.OfScenario parts.Truth)) (list input) _ (λ e. refl)
      (λ e x1 is. interval_then t d (Some (keys.Pool, sorts.OfScenario parts.Truth)) _ there (λ i. more_then t d (keys.Pool, sorts.OfScenario parts.Truth) truth (made_step x0 x1 i) (λ e. refl))))
  intent_fault_by intents.Steps there =
      key_then t d (keys.Steps, sorts.OfScenario parts.Steps) ((keys.From, sorts.Time) ∷ (keys.To, sorts.Time) ∷ []) (Some (keys.Pool, sorts.OfScenario parts.Truth)) (list (step_item t.threads)) _ (λ e. refl)
      (λ e x0 is. interval_then t d (Some (keys.Pool, sorts.OfScenario parts.Truth)) _ there (λ i. more_then t d (keys.Pool, sorts.OfScenario parts.Truth) truth (made_steps x0 i) (λ e. refl)))
  intent_fault_by intents.Claim there =
      key_then t d (keys.Claim, sorts.OfScenario (parts.NameOf named.Contract)) ((keys.Role, sorts.Text) ∷ (keys.From, sorts.Time) ∷ (keys.To, sorts.Time) ∷ []) None (known contract_name t.contracts) _ (λ e. refl)
      (λ e x0 is. key_then t d (keys.Role, sorts.Text) ((keys.From, sorts.Time) ∷ (keys.To, sorts.Time) ∷ []) None text _ (λ e. refl)
      (λ e x1 is. interval_then t d None _ there (λ i. refl)))
  intent_fault_by intents.Round there =
      key_then t d (keys.Round, sorts.OfScenario parts.Count) ((keys.Workers, sorts.OfScenario parts.Workers) ∷ []) None count _ (λ e. refl)
      (λ e x0 is. key_then t d (keys.Workers, sorts.OfScenario parts.Workers) [] None workers _ (λ e. refl)
      (λ e x1 is. refl))
  intent_fault_by intents.Advance there =
      key_then t d (keys.Advance, sorts.Time) [] None time _ (λ e. refl)
      (λ e x0 is. refl)
  intent_fault_by intents.Nothing there = refl

  step_or : (a i : Bool) (other : IntentForm) → has_two (codes "from") (codes "to") d ≡ i → HasInterval other → HasInterval (if a && i then intents.Step else other)
  step_or true true other there rest = there
  step_or true false other there rest = rest
  step_or false i other there rest = rest

  steps_or : (a i : Bool) (other : IntentForm) → has_two (codes "from") (codes "to") d ≡ i → HasInterval other → HasInterval (if a && i then intents.Steps else other)
  steps_or true true other there rest = there
  steps_or true false other there rest = rest
  steps_or false i other there rest = rest

  claim_or : (a i : Bool) (other : IntentForm) → has_two (codes "from") (codes "to") d ≡ i → HasInterval other → HasInterval (if a && i then intents.Claim else other)
  claim_or true true other there rest = there
  claim_or true false other there rest = rest
  claim_or false i other there rest = rest

  others_have : (r w : Bool) → HasInterval (if r then intents.Round else (if w then intents.Advance else intents.Nothing))
  others_have true w = tt
  others_have false true = tt
  others_have false false = tt

  has_interval : HasInterval (intent_form d)
  unfolding intent_form
  has_interval =
      let i = has_two (codes "from") (codes "to") d in
      step_or (has_two (codes "step") (codes "inputs") d) i _ refl
      (steps_or (has (codes "steps") d) i _ refl
      (claim_or (has_two (codes "claim") (codes "role") d) i _ refl (others_have (has_two (codes "round") (codes "workers") d) (has (codes "advance") d))))

  intent_fault : fault_of (intent t.contracts t.threads d) ≡ fault_by (intent_shape (intent_form d)) t d
  intent_fault = intent_fault_by (intent_form d) has_interval

-- ---- scenarios

abbrev made_scenario : ℤ → List Funds → List NamedContract → List NamedThread → List (Plan ℕ ℕ) → Scenario
made_scenario tick genesis contracts threads plans = record { tick = tick; genesis = genesis; contracts = contracts; threads = threads; plans = plans }

abbrev threads_field : Field
threads_field = (keys.Threads, sorts.OfScenario parts.Threads)

abbrev plans_field : Field
plans_field = (keys.Plans, sorts.OfScenario parts.Plans)

-- a list in turn, beside what is there
contracts_same : (t : There) (e : Data) → t.contracts ≡ [] → fault_of (list_in_turn contract e) ≡ fault_of (in_turn named.Contract t e)
contracts_same t e none = sym (ap fault_of (contracts_in_turn t none (as_array e)) ∙ made_fault (list_in_turn contract e) (with_contracts t))

threads_same : (t : There) (e : Data) → t.threads ≡ [] → fault_of (list_in_turn (new_thread t.contracts) e) ≡ fault_of (in_turn named.Thread t e)
threads_same t e none = sym (ap fault_of (threads_in_turn t none (as_array e)) ∙ made_fault (list_in_turn (new_thread t.contracts) e) (with_threads t))

plans_same : (t : There) (e : Data) → t.plans ≡ [] → fault_of (list_in_turn (plan t.contracts t.threads) e) ≡ fault_of (in_turn named.Plan t e)
plans_same t e none = sym (ap fault_of (plans_in_turn t none (as_array e)) ∙ made_fault (list_in_turn (plan t.contracts t.threads) e) (with_plans t))

-- what is there behind it
contracts_go : (t : There) (e : Data) (cs : List NamedContract) → t.contracts ≡ [] → list_in_turn contract e ≡ Ok cs → with_contracts t cs ≡ after (sorts.OfScenario parts.Contracts) t e
contracts_go t e cs none is = sym (ap (or_same t) (contracts_in_turn t none (as_array e) ∙ ap (λ r. r >>= λ xs. Ok (with_contracts t xs)) is))

threads_go : (t : There) (e : Data) (ts : List NamedThread) → t.threads ≡ [] → list_in_turn (new_thread t.contracts) e ≡ Ok ts → with_threads t ts ≡ after (sorts.OfScenario parts.Threads) t e
threads_go t e ts none is = sym (ap (or_same t) (threads_in_turn t none (as_array e) ∙ ap (λ r. r >>= λ xs. Ok (with_threads t xs)) is))

module _ (d : Data) where
  plans_then : (u : There) (make : List (Plan ℕ ℕ) → Scenario) → u.plans ≡ []
      → fault_of (reading_at (list_in_turn (plan u.contracts u.threads)) d (codes "plans") >>= λ ps. Ok (make ps)) ≡ behind_fault u d (plans_field ∷ []) None
  plans_then u make none = key_then u d plans_field [] None (list_in_turn (plan u.contracts u.threads)) _ (λ e. plans_same u e none) (λ e ps is. refl)

  threads_then : (u : There) (make : List NamedThread → List (Plan ℕ ℕ) → Scenario) → u.threads ≡ [] → u.plans ≡ []
      → fault_of (reading_at (list_in_turn (new_thread u.contracts)) d (codes "threads") >>= λ ts. reading_at (list_in_turn (plan u.contracts ts)) d (codes "plans") >>= λ ps. Ok (make ts ps))
      ≡ behind_fault u d (threads_field ∷ plans_field ∷ []) None
  threads_then u make none no_plans =
      key_then u d threads_field (plans_field ∷ []) None (list_in_turn (new_thread u.contracts)) _ (λ e. threads_same u e none)
      (λ e ts is. plans_then (with_threads u ts) (make ts) no_plans ∙ ap (λ w. behind_fault w d (plans_field ∷ []) None) (threads_go u e ts none is))

  scenario_fault : (b : Bool)
      → fault_of
      (if b then (reading_at time d (codes "tick") >>= λ tick. reading_at (list funds) d (codes "genesis") >>= λ genesis. reading_at (list_in_turn contract) d (codes "contracts") >>= λ cs. reading_at (list_in_turn (new_thread cs)) d (codes "threads") >>= λ ts. reading_at (list_in_turn (plan cs ts)) d (codes "plans") >>= λ ps. Ok (made_scenario tick genesis cs ts ps))
      else Err NoForm)
      ≡ fault_by (one_form b forms.Scenario) nothing d
  unfolding one_form
  scenario_fault true =
      let own_contracts : Field = (keys.Contracts, sorts.OfScenario parts.Contracts) in
      let own_genesis : Field = (keys.Genesis, sorts.OfScenario parts.Genesis) in
      key_then nothing d (keys.Tick, sorts.Time) (own_genesis ∷ own_contracts ∷ threads_field ∷ plans_field ∷ []) None time _ (λ e. refl)
      (λ e tick is. key_then nothing d own_genesis (own_contracts ∷ threads_field ∷ plans_field ∷ []) None (list funds) _ (λ e. refl)
      (λ e genesis is. key_then nothing d own_contracts (threads_field ∷ plans_field ∷ []) None (list_in_turn contract) _ (λ e. contracts_same nothing e refl)
      (λ e cs is. threads_then (with_contracts nothing cs) (made_scenario tick genesis cs) refl refl
      ∙ ap (λ w. behind_fault w d (threads_field ∷ plans_field ∷ []) None) (contracts_go nothing e cs refl is))))
  scenario_fault false = refl

-- ---- all sorts

-- the fault of a value of a sort is that of its form, or of the first part that has one
pub fault_is : (part : ScenarioSort) (t : There) (d : Data) → own_fault part t d ≡ fault_by (shape_in part t d) (start part t) d
fault_is parts.Scenario t d = scenario_fault d (has_three (codes "tick") (codes "genesis") (codes "contracts") d && has_two (codes "threads") (codes "plans") d)
fault_is parts.Genesis t d = list_is t (sorts.OfScenario parts.Funds) funds (λ e. refl) (λ e. refl) (as_array d)
fault_is parts.Funds t d = funds_fault t d (has_two (codes "address") (codes "amount") d)
fault_is parts.Contracts t d = turn_list named.Contract (sorts.OfScenario parts.NamedContract) (λ u e. made_fault (contract u.contracts e) _) (λ u e. refl) t (as_array d)
fault_is parts.NamedContract t d = contract_fault t d (has_three (codes "name") (codes "currency") (codes "contract") d)
fault_is parts.Threads t d = turn_list named.Thread (sorts.OfScenario parts.NamedThread) (λ u e. made_fault (new_thread u.contracts u.threads e) _) (λ u e. refl) t (as_array d)
fault_is parts.NamedThread t d = thread_fault t d (has_three (codes "name") (codes "contract") (codes "by") d && has_two (codes "accounts") (codes "minTime") d)
fault_is parts.Plans t d = turn_list named.Plan (sorts.OfScenario parts.Plan) (λ u e. made_fault (plan u.contracts u.threads u.plans e) _) (λ u e. refl) t (as_array d)
fault_is parts.Plan t d = plan_fault t d (nat_lt (length t.plans) 63 && has_two (codes "name") (codes "keys") d && has_two (codes "change") (codes "intents") d)
fault_is parts.PlanKeys t d = list_is t sorts.Text text (λ e. refl) (λ e. refl) (as_array d)
fault_is parts.Intents t d = list_is t (sorts.OfScenario parts.Intent) (intent t.contracts t.threads) (λ e. refl) (λ e. refl) (as_array d)
fault_is parts.Intent t d = intent_fault t d
fault_is parts.Steps t d = list_is t (sorts.OfScenario parts.OneStep) (step_item t.threads) (λ e. refl) (λ e. refl) (as_array d)
fault_is parts.OneStep t d = one_step_fault t d
fault_is (parts.NewName kind) t d = single_is (own_fault (parts.NewName kind) t d) t d
fault_is (parts.NameOf kind) t d = single_is (own_fault (parts.NameOf kind) t d) t d
fault_is parts.Count t d = single_is (fault_of (count d)) t d
fault_is parts.Workers t d = single_is (fault_of (workers d)) t d
fault_is parts.Calls t d = single_is (fault_of (calls d)) t d
fault_is parts.Truth t d = single_is (fault_of (truth d)) t d
