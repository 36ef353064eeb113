-- Whether all went well.
use Rattle.std.specs.Prelude.{ℕ, ◌+◌, Bool, true, false, ◌&&◌, ◌||◌, List, [], ◌∷◌, slice_get, Option, Some, None}
use Rattle.std.specs.Str.{bytes_eq}
use Rattle.play_endings.specs.Ledger.declared.call.Entry.{Entry}
use Rattle.play_endings.specs.Plans.declared.plan.Plan.{Plan}
use Rattle.play_endings.specs.Plans.declared.scenario.Scenario.{Scenario as ScenarioRead}
use Rattle.parties.specs.declared.left_out.LeftOut.{LeftOut}
use Rattle.play_setup.specs.PlayLines.PlayLines.{ThreadLine}
use Rattle.play_endings.specs.declared.taken.Taken.{Taken}
use Rattle.play_endings.specs.Endings.{all_done, taken_in}
use Rattle.marlowe_play.specs.Notes.{plan_ended}

-- ---- each intent of each plan is done, the first of these plans at place n

abbrev pub plan_done : List Entry → List Taken → ℕ → Option (Plan ℕ ℕ) → List LeftOut → Bool
plan_done es taken n None left = true
plan_done es taken n (Some plan) left = all_done (plan_ended es taken n plan left)

abbrev pub plans_done : ScenarioRead → List Entry → List Taken → ℕ → List (List LeftOut) → Bool
plans_done s es taken n [] = true
plans_done s es taken n (left ∷ lefts) = plan_done es taken n (slice_get s.plans n) left && plans_done s es taken (n + 1) lefts

abbrev pub intents_done : ScenarioRead → List (List LeftOut) → List Entry → Bool
intents_done s lefts es = plans_done s es (taken_in 0 es) 0 lefts

-- ---- each thread is closed, but for those with these names

abbrev pub is_among : List ℕ → List (List ℕ) → Bool
is_among name [] = false
is_among name (n ∷ ns) = bytes_eq name n || is_among name ns

abbrev pub closed_but : List (List ℕ) → List ThreadLine → Bool
closed_but kept [] = true
closed_but kept (t ∷ ts) = (t.closed || is_among t.name kept) && closed_but kept ts

-- WELL: each intent of each plan is done, and each thread is closed, but for those that may stay open
abbrev pub went_well : List (List ℕ) → ScenarioRead → List (List LeftOut) → List Entry → List ThreadLine → Bool
went_well kept s lefts es threads = intents_done s lefts es && closed_but kept threads
