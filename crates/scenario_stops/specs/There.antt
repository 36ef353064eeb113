-- What is there already when a part of a scenario is read, and what there is once it was read.
use Rattle.std.specs.Prelude.{ℕ, List, [], ◌∷◌, ◌++◌, Ok, Err}
use Rattle.serde_json.specs.Data.{Data, Items, no_items, item}
use Rattle.serde_json.specs.Find.{as_array}
use Rattle.contract.specs.Collections.Answers.{◌>>=◌}
use Rattle.plans.specs.declared.plan.Plan.{Plan}
use Rattle.plans.specs.declared.scenario.NamedContract.{NamedContract}
use Rattle.plans.specs.declared.scenario.NamedThread.{NamedThread}
use Rattle.json_read_names.specs.Parts.{Reading, needed}
use Rattle.json_read_scenarios.specs.ReadsPlan.{plan}
use Rattle.json_read_scenarios.specs.ReadsScenario.{contract, new_thread}
use Rattle.json_forms.specs.declared.sort.NamedSort.{NamedSort}
use Rattle.json_forms.specs.declared.sort.NamedSort.TheVariants as named
use Rattle.json_forms.specs.declared.sort.ScenarioSort.TheVariants as parts
use Rattle.json_forms.specs.declared.sort.Sort.{Sort}
use Rattle.json_forms.specs.declared.sort.Sort.TheVariants as sorts

-- contracts, threads and plans that were read
pub record There : Type 0 where
  pub contracts : List NamedContract
  pub threads : List NamedThread
  pub plans : List (Plan ℕ ℕ)

abbrev pub nothing : There
nothing = record { contracts = []; threads = []; plans = [] }

abbrev pub with_contracts : There → List NamedContract → There
with_contracts t cs = record { contracts = cs; threads = t.threads; plans = t.plans }

abbrev pub with_threads : There → List NamedThread → There
with_threads t ts = record { contracts = t.contracts; threads = ts; plans = t.plans }

abbrev pub with_plans : There → List (Plan ℕ ℕ) → There
with_plans t ps = record { contracts = t.contracts; threads = t.threads; plans = ps }

-- one more, read beside what is there
abbrev pub one_more : NamedSort → There → Data → Reading There
one_more named.Contract t d = contract t.contracts d >>= λ c. Ok (with_contracts t (t.contracts ++ c ∷ []))
one_more named.Thread t d = new_thread t.contracts t.threads d >>= λ n. Ok (with_threads t (t.threads ++ n ∷ []))
one_more named.Plan t d = plan t.contracts t.threads t.plans d >>= λ p. Ok (with_plans t (t.plans ++ p ∷ []))

-- one after another
abbrev pub all_in_turn : NamedSort → There → Items → Reading There
all_in_turn kind t no_items = Ok t
all_in_turn kind t (item d ds) = one_more kind t d >>= λ u. all_in_turn kind u ds

abbrev pub in_turn : NamedSort → There → Data → Reading There
in_turn kind t d = needed (as_array d) >>= all_in_turn kind t

-- what isn't read adds nothing
abbrev pub or_same : There → Reading There → There
or_same t (Ok u) = u
or_same t (Err fault) = t

-- what is there once a value was read as one of a sort. A scenario is one of its own.
abbrev pub after : Sort → There → Data → There
after (sorts.OfScenario parts.NamedContract) t d = or_same t (one_more named.Contract t d)
after (sorts.OfScenario parts.NamedThread) t d = or_same t (one_more named.Thread t d)
after (sorts.OfScenario parts.Plan) t d = or_same t (one_more named.Plan t d)
after (sorts.OfScenario parts.Contracts) t d = or_same t (in_turn named.Contract t d)
after (sorts.OfScenario parts.Threads) t d = or_same t (in_turn named.Thread t d)
after (sorts.OfScenario parts.Plans) t d = or_same t (in_turn named.Plan t d)
after (sorts.OfScenario parts.Scenario) t d = nothing
after other t d = t
