-- A scenario that was read names what it has.
use Rattle.std.proofs.Common.{◌≡◌, ℕ, ◌<◌, ◌≤◌, Bool, true, false, cond, List, length, Option, Ok, Err, refl, sym, ap, ◌∙◌, subst, arith}
use Rattle.std.specs.Prelude.{codes, nat_lt, ◌&&◌, if◌then◌else◌}
use Rattle.std.specs.Option.{unwrap_or}
use Rattle.std.specs.List.{All}
use Rattle.std.proofs.lemmas.Bool.Decides.{nat_tests}
use Rattle.contract.specs.Collections.Answers.{◌>>=◌}
use Rattle.contract.specs.declared.input.Input.{Input}
use Rattle.contract.specs.declared.interval.Interval.{Interval}
use Rattle.serde_json.specs.Data.{Data}
use Rattle.plans.specs.declared.intent.Intent.{Intent}
use Rattle.plans.specs.declared.intent.Intent.TheVariants as intents
use Rattle.plans.specs.declared.plan.Plan.{Plan}
use Rattle.plans.specs.declared.scenario.NamedContract.{NamedContract}
use Rattle.plans.specs.declared.scenario.NamedThread.{NamedThread}
use Rattle.plans.specs.declared.scenario.Scenario.{Scenario}
use Rattle.json_read_names.specs.Forms.{has_two, has_three}
use Rattle.json_read_names.specs.Parts.{Reading, reading_at, text, time, list}
use Rattle.json_read_names.specs.declared.fault.JsonFault.TheVariants.{NoForm}
use Rattle.json_read_inputs.specs.ReadsInput.{input, interval}
use Rattle.json_read_scenarios.specs.declared.intent_forms.IntentForm.{IntentForm}
use Rattle.json_read_scenarios.specs.declared.intent_forms.IntentForm.TheVariants as forms
use Rattle.json_read_scenarios.specs.Named.{IntentNames, PlanNames, NamesWhatItHas}
use Rattle.json_read_scenarios.specs.Names.{known, new_name, list_in_turn}
use Rattle.json_read_scenarios.specs.ReadsPlan.{contract_name, thread_name, plan_name, count, workers, truth, calls, if_there, intent_form, step_item, intent_by, intent, plan}
use Rattle.json_read_scenarios.specs.ReadsScenario.{funds, contract, first_state, new_thread, scenario}
use Rattle.json_read_scenarios.proofs.NamedLaws.{Stepped, stepped, at_key, known_is_there, list_read, list_read_in_turn, few_read}

-- where the keys are there, the reading is the one behind them
behind : {X : Type 0} (b : Bool) (reading : Reading X) (x : X) → (if b then reading else Err NoForm) ≡ Ok x → (b ≡ true) × (reading ≡ Ok x)
behind true reading x is = (refl, is)
behind false reading x is = absurd (cc)

below_it : (n most : ℕ) → nat_lt n most ≡ true → n < most
below_it n most test = grind (arith, nat_tests)

first_of_both : (a b : Bool) → (a && b) ≡ true → a ≡ true
first_of_both true b is = refl
first_of_both false b is = absurd (cc)

-- ---- intents

step_names : (threads : List NamedThread) (d : Data) (s : ℕ × List Input) → step_item threads d ≡ Ok s → s.0 < length threads
unfolding step_item
step_names threads d s is =
    let a = stepped (reading_at (known thread_name threads) d (codes "step")) (λ thread. reading_at (list input) d (codes "inputs") >>= λ inputs. Ok (thread, inputs)) s is in
    let b = stepped (reading_at (list input) d (codes "inputs")) (λ inputs. Ok (a.value, inputs)) s a.second_is in
    let k = at_key (known thread_name threads) d (codes "step") a.value a.first_is in
    let same : ◌≡◌ {A = ℕ × List Input} (a.value, b.value) s = let h = b.second_is in cc in
    subst (λ (t : ℕ × List Input). t.0 < length threads) same (known_is_there thread_name threads k.0 a.value k.1)

intent_names : (form : IntentForm) (contracts : List NamedContract) (threads : List NamedThread) (d : Data) (x : Intent ℕ ℕ) → intent_by form contracts threads d ≡ Ok x → IntentNames (length contracts) (length threads) x
unfolding intent_by
intent_names forms.Step contracts threads d x is =
    let a = stepped (reading_at (known thread_name threads) d (codes "step")) _ x is in
    let b = stepped (reading_at (list input) d (codes "inputs")) _ x a.second_is in
    let c = stepped (interval d) _ x b.second_is in
    let e = stepped (if_there truth d (codes "pool")) _ x c.second_is in
    let k = at_key (known thread_name threads) d (codes "step") a.value a.first_is in
    let same : ◌≡◌ {A = Intent ℕ ℕ} (intents.Step a.value b.value c.value (unwrap_or e.value false)) x = let h = e.second_is in cc in
    subst (IntentNames (length contracts) (length threads)) same (known_is_there thread_name threads k.0 a.value k.1)
intent_names forms.Steps contracts threads d x is =
    let a = stepped (reading_at (list (step_item threads)) d (codes "steps")) _ x is in
    let b = stepped (interval d) _ x a.second_is in
    let c = stepped (if_there truth d (codes "pool")) _ x b.second_is in
    let k = at_key (list (step_item threads)) d (codes "steps") a.value a.first_is in
    let same : ◌≡◌ {A = Intent ℕ ℕ} (intents.Steps a.value b.value (unwrap_or c.value false)) x = let h = c.second_is in cc in
    subst (IntentNames (length contracts) (length threads)) same (list_read (λ (s : ℕ × List Input). s.0 < length threads) (step_item threads) (step_names threads) k.0 a.value k.1)
intent_names forms.Claim contracts threads d x is =
    let a = stepped (reading_at (known contract_name contracts) d (codes "claim")) _ x is in
    let b = stepped (reading_at text d (codes "role")) _ x a.second_is in
    let c = stepped (interval d) _ x b.second_is in
    let k = at_key (known contract_name contracts) d (codes "claim") a.value a.first_is in
    let same : ◌≡◌ {A = Intent ℕ ℕ} (intents.Claim a.value b.value c.value) x = let h = c.second_is in cc in
    subst (IntentNames (length contracts) (length threads)) same (known_is_there contract_name contracts k.0 a.value k.1)
intent_names forms.Round contracts threads d x is =
    let a = stepped (reading_at count d (codes "round")) _ x is in
    let b = stepped (reading_at workers d (codes "workers")) _ x a.second_is in
    let same : ◌≡◌ {A = Intent ℕ ℕ} (intents.Round a.value b.value) x = let h = b.second_is in cc in
    subst (IntentNames (length contracts) (length threads)) same tt
intent_names forms.Advance contracts threads d x is =
    let a = stepped (reading_at time d (codes "advance")) _ x is in
    let same : ◌≡◌ {A = Intent ℕ ℕ} (intents.Advance a.value) x = let h = a.second_is in cc in
    subst (IntentNames (length contracts) (length threads)) same tt
intent_names forms.Nothing contracts threads d x is = absurd (cc)

-- ---- plans and threads

plan_read : (contracts : List NamedContract) (threads : List NamedThread) (before : List (Plan ℕ ℕ)) (d : Data) (p : Plan ℕ ℕ) → plan contracts threads before d ≡ Ok p → (length before < 63) × PlanNames (length contracts) (length threads) p
plan_read contracts threads before d p is =
    let test = nat_lt (length before) 63 && has_two (codes "name") (codes "keys") d && has_two (codes "change") (codes "intents") d in
    let there = behind test _ p is in
    let small : nat_lt (length before) 63 ≡ true = first_of_both (nat_lt (length before) 63) _ (first_of_both (nat_lt (length before) 63 && has_two (codes "name") (codes "keys") d) _ there.0) in
    let name = stepped (reading_at (new_name plan_name before) d (codes "name")) _ p there.1 in
    let keys = stepped (reading_at (list text) d (codes "keys")) _ p name.second_is in
    let change = stepped (reading_at text d (codes "change")) _ p keys.second_is in
    let all = stepped (reading_at (list (intent contracts threads)) d (codes "intents")) _ p change.second_is in
    let stop = stepped (if_there calls d (codes "stop_after")) _ p all.second_is in
    let k = at_key (list (intent contracts threads)) d (codes "intents") all.value all.first_is in
    let same : ◌≡◌ {A = Plan ℕ ℕ} (record { name = name.value; keys = keys.value; change = change.value; intents = all.value; stop_after = stop.value }) p = let h = stop.second_is in cc in
    let named = list_read (IntentNames (length contracts) (length threads)) (intent contracts threads) (λ e x. intent_names (intent_form e) contracts threads e x) k.0 all.value k.1 in
    (below_it (length before) 63 small, subst (PlanNames (length contracts) (length threads)) same named)

thread_names : (contracts : List NamedContract) (before : List NamedThread) (d : Data) (t : NamedThread) → new_thread contracts before d ≡ Ok t → t.contract < length contracts
thread_names contracts before d t is =
    let there = behind (has_three (codes "name") (codes "contract") (codes "by") d && has_two (codes "accounts") (codes "minTime") d) _ t is in
    let name = stepped (reading_at (new_name thread_name before) d (codes "name")) _ t there.1 in
    let contract = stepped (reading_at (known contract_name contracts) d (codes "contract")) _ t name.second_is in
    let by = stepped (reading_at text d (codes "by")) _ t contract.second_is in
    let state = stepped (first_state d) _ t by.second_is in
    let k = at_key (known contract_name contracts) d (codes "contract") contract.value contract.first_is in
    let same : ◌≡◌ {A = NamedThread} (record { name = name.value; contract = contract.value; by = by.value; state = state.value }) t = let h = state.second_is in cc in
    subst (λ (u : NamedThread). u.contract < length contracts) same (known_is_there contract_name contracts k.0 contract.value k.1)

-- ---- scenarios

pub scenario_names : (d : Data) (s : Scenario) → scenario d ≡ Ok s → NamesWhatItHas s
scenario_names d s is =
    let there = behind (has_three (codes "tick") (codes "genesis") (codes "contracts") d && has_two (codes "threads") (codes "plans") d) _ s is in
    let tick = stepped (reading_at time d (codes "tick")) _ s there.1 in
    let genesis = stepped (reading_at (list funds) d (codes "genesis")) _ s tick.second_is in
    let contracts = stepped (reading_at (list_in_turn contract) d (codes "contracts")) _ s genesis.second_is in
    let threads = stepped (reading_at (list_in_turn (new_thread contracts.value)) d (codes "threads")) _ s contracts.second_is in
    let plans = stepped (reading_at (list_in_turn (plan contracts.value threads.value)) d (codes "plans")) _ s threads.second_is in
    let of_threads = at_key (list_in_turn (new_thread contracts.value)) d (codes "threads") threads.value threads.first_is in
    let of_plans = at_key (list_in_turn (plan contracts.value threads.value)) d (codes "plans") plans.value plans.first_is in
    let same : ◌≡◌ {A = Scenario} (record { tick = tick.value; genesis = genesis.value; contracts = contracts.value; threads = threads.value; plans = plans.value }) s = let h = plans.second_is in cc in
    subst NamesWhatItHas same (record {
      threads = list_read_in_turn (λ (t : NamedThread). t.contract < length contracts.value) (new_thread contracts.value) (thread_names contracts.value) of_threads.0 threads.value of_threads.1;
      plans = list_read_in_turn (PlanNames (length contracts.value) (length threads.value)) (plan contracts.value threads.value) (λ before e p h. (plan_read contracts.value threads.value before e p h).1) of_plans.0 plans.value of_plans.1;
      few = few_read 63 (plan contracts.value threads.value) (λ before e p h. (plan_read contracts.value threads.value before e p h).0) of_plans.0 plans.value of_plans.1;
    })
