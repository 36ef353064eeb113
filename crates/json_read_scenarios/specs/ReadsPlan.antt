-- What a JSON value stands for as an intent and as a plan, among the contracts and the threads of a scenario.
use Rattle.std.specs.Prelude.{ℕ, List, length, ◌^◌, nat_lt, Bool, false, ◌&&◌, Option, Some, None, Ok, Err, codes, if◌then◌else◌}
use Rattle.std.specs.Option.{unwrap_or}
use Rattle.contract.specs.declared.input.Input.{Input}
use Rattle.serde_json.specs.Data.{Num, unsigned, negative, float, Data}
use Rattle.serde_json.specs.Find.{get, as_bool, as_number}
use Rattle.plans.specs.declared.intent.Intent.{Intent}
use Rattle.plans.specs.declared.intent.Intent.TheVariants as intents
use Rattle.plans.specs.declared.plan.Plan.{Plan}
use Rattle.plans.specs.declared.scenario.NamedContract.{NamedContract}
use Rattle.plans.specs.declared.scenario.NamedThread.{NamedThread}
use Rattle.contract.specs.Collections.Answers.{◌>>=◌}
use Rattle.json_read_names.specs.Forms.{has, has_two}
use Rattle.json_read_names.specs.Parts.{Reading, ByKey, needed, reading_at, text, time, list}
use Rattle.json_read_names.specs.declared.fault.JsonFault.{JsonFault}
use Rattle.json_read_names.specs.declared.fault.JsonFault.TheVariants.{NoForm, NotWhole, OutOfRange}
use Rattle.json_read_inputs.specs.ReadsInput.{input, interval}
use Rattle.json_read_scenarios.specs.Names.{known, new_name}
use Rattle.json_read_scenarios.specs.declared.intent_forms.IntentForm.{IntentForm}
use Rattle.json_read_scenarios.specs.declared.intent_forms.IntentForm.TheVariants as forms

-- the names of items
abbrev pub contract_name : NamedContract → List ℕ
contract_name c = c.name

abbrev pub thread_name : NamedThread → List ℕ
thread_name t = t.name

abbrev pub plan_name : Plan ℕ ℕ → List ℕ
plan_name p = p.name

-- ---- numbers and members that may be left out

-- a number from 0 to 2^64 - 1; what is below 0 has this fault
abbrev from_zero : JsonFault → Num → Reading ℕ
from_zero below (unsigned n) = Ok n
from_zero below (negative z) = Err below
from_zero below (float x) = Err NotWhole

abbrev pub natural : JsonFault → Data → Reading ℕ
natural below d = needed (as_number d) >>= from_zero below

-- how many transactions a round takes: from 0 to 2^64 - 1
abbrev pub count : Data → Reading ℕ
count d = natural OutOfRange d

-- workers: from 1 to 16
abbrev pub workers : Data → Reading ℕ
workers d = natural NoForm d >>= λ n. if nat_lt 0 n && nat_lt n 17 then Ok n else Err NoForm

-- after how many calls a plan stops: from 0 to 2^63 - 1
abbrev pub calls : Data → Reading ℕ
calls d = natural OutOfRange d >>= λ n. if nat_lt n (2 ^ 63) then Ok n else Err OutOfRange

-- `true` or `false`
abbrev pub truth : Data → Reading Bool
truth d = needed (as_bool d)

abbrev if_found : {X : Type 0} → (Data → Reading X) → Option Data → Reading (Option X)
if_found reading None = Ok None
if_found reading (Some d) = reading d >>= λ x. Ok (Some x)

-- the reading of the member at a key, if there is one
abbrev pub if_there : {X : Type 0} → (Data → Reading X) → Data → ByKey (Option X)
if_there reading d key = if_found reading (get key d)

-- ---- intents

-- the first form whose keys are all there
unfoldable pub intent_form : Data → IntentForm
intent_form d =
    if has_two (codes "step") (codes "inputs") d && has_two (codes "from") (codes "to") d then forms.Step
    else (if has (codes "steps") d && has_two (codes "from") (codes "to") d then forms.Steps
    else (if has_two (codes "claim") (codes "role") d && has_two (codes "from") (codes "to") d then forms.Claim
    else (if has_two (codes "round") (codes "workers") d then forms.Round
    else (if has (codes "advance") d then forms.Advance
    else forms.Nothing))))

-- one of several steps: a thread, and the inputs that it is given
unfoldable pub step_item : List NamedThread → Data → Reading (ℕ × List Input)
step_item threads d = do
  thread ← reading_at (known thread_name threads) d (codes "step")
  inputs ← reading_at (list input) d (codes "inputs")
  Ok (thread, inputs)

-- An intent of each form.
unfoldable pub intent_by : IntentForm → List NamedContract → List NamedThread → Data → Reading (Intent ℕ ℕ)
intent_by forms.Step contracts threads d = do
  thread ← reading_at (known thread_name threads) d (codes "step")
  inputs ← reading_at (list input) d (codes "inputs")
  interval ← interval d
  pooled ← if_there truth d (codes "pool")
  Ok (intents.Step thread inputs interval (unwrap_or pooled false))
intent_by forms.Steps contracts threads d = do
  steps ← reading_at (list (step_item threads)) d (codes "steps")
  interval ← interval d
  pooled ← if_there truth d (codes "pool")
  Ok (intents.Steps steps interval (unwrap_or pooled false))
intent_by forms.Claim contracts threads d = do
  contract ← reading_at (known contract_name contracts) d (codes "claim")
  role ← reading_at text d (codes "role")
  interval ← interval d
  Ok (intents.Claim contract role interval)
intent_by forms.Round contracts threads d = do
  count ← reading_at count d (codes "round")
  workers ← reading_at workers d (codes "workers")
  Ok (intents.Round count workers)
intent_by forms.Advance contracts threads d = do
  time ← reading_at time d (codes "advance")
  Ok (intents.Advance time)
intent_by forms.Nothing contracts threads d = Err NoForm

abbrev pub intent : List NamedContract → List NamedThread → Data → Reading (Intent ℕ ℕ)
intent contracts threads d = intent_by (intent_form d) contracts threads d

-- ---- plans

-- a plan, beside those before it, of which there are at most 62
abbrev pub plan : List NamedContract → List NamedThread → List (Plan ℕ ℕ) → Data → Reading (Plan ℕ ℕ)
plan contracts threads before d =
    if nat_lt (length before) 63 && has_two (codes "name") (codes "keys") d && has_two (codes "change") (codes "intents") d then (do
      name ← reading_at (new_name plan_name before) d (codes "name")
      keys ← reading_at (list text) d (codes "keys")
      change ← reading_at text d (codes "change")
      intents ← reading_at (list (intent contracts threads)) d (codes "intents")
      stop_after ← if_there calls d (codes "stop_after")
      Ok (record { name = name; keys = keys; change = change; intents = intents; stop_after = stop_after }))
    else Err NoForm
