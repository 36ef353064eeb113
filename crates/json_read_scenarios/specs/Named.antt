-- What a scenario that was read names: contracts and threads that it has.
use Rattle.std.specs.Prelude.{ℕ, ◌<◌, ◌≤◌, List, length}
use Rattle.std.specs.List.{All}
use Rattle.contract.specs.declared.input.Input.{Input}
use Rattle.plans.specs.declared.intent.Intent.{Intent}
use Rattle.plans.specs.declared.intent.Intent.TheVariants as intents
use Rattle.plans.specs.declared.plan.Plan.{Plan}
use Rattle.plans.specs.declared.scenario.NamedThread.{NamedThread}
use Rattle.plans.specs.declared.scenario.Scenario.{Scenario}

-- an intent names a thread or a contract among so many
abbrev pub IntentNames : ℕ → ℕ → Intent ℕ ℕ → Type 0
IntentNames contracts threads (intents.Step thread inputs interval pooled) = thread < threads
IntentNames contracts threads (intents.Steps steps interval pooled) = All (λ (s : ℕ × List Input). s.0 < threads) steps
IntentNames contracts threads (intents.Claim contract role interval) = contract < contracts
IntentNames contracts threads (intents.Round count workers) = Unit {0}
IntentNames contracts threads (intents.Advance tick) = Unit {0}

abbrev pub PlanNames : ℕ → ℕ → Plan ℕ ℕ → Type 0
PlanNames contracts threads p = All (IntentNames contracts threads) p.intents

-- each thread names a contract, and each intent what it needs; and there are at most 63 plans
pub record NamesWhatItHas (s : Scenario) : Type 0 where
  pub threads : All (λ (t : NamedThread). t.contract < length s.contracts) s.threads
  pub plans : All (PlanNames (length s.contracts) (length s.threads)) s.plans
  pub few : length s.plans ≤ 63
