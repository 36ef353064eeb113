-- What looks show of threads after a history, and that anyone closes these after their last timeout.
use Rattle.std.specs.Prelude.{◌≡◌, ℕ, ◌≤ℤ◌, List, Some, None, ◌⊎◌}
use Rattle.contract.specs.declared.interval.Interval.{Interval}
use Rattle.builder_spec.specs.Evaluation.Timeouts.{last}
use Rattle.builder_spec.specs.Semantics.Closing.{HasReached}
use Rattle.builder_spec.specs.Machine.declared.datum.Datum.{Datum}
use Rattle.builder_spec.specs.EutxoTypes.declared.output_ref.OutputRef.{OutputRef}
use Rattle.builder_spec.specs.EutxoTypes.Parts.{Instance}
use Rattle.builder_spec.specs.Roles.Steps.{marlowe}
use Rattle.ledger_laws.specs.Threads.{thread, IsStart, Carries, thread_end, IsMade, StartsThread, Member, contract_after, state_after}
use Rattle.builder_spec.specs.Ledger.declared.ask.Ask.{Ask}
use Rattle.builder_spec.specs.Ledger.declared.look.Look.{Look}
use Rattle.builder_spec.specs.Ledger.declared.look.ThreadOutput.{ThreadOutput}
use Rattle.builder_spec.specs.Requests.{StepRequest}
use Rattle.builder_spec.specs.Parts.{hinders_step, layout_step}
use Rattle.builder_spec.specs.Steps.{Thread, thread_terms, look_thread, step_spent}
use Rattle.builder_spec.specs.Closings.{closing, Closes}
use Rattle.ledger_spec.specs.AcceptedAt.{Accepts, IsOpenAfter}
use Rattle.ledger_spec.specs.Replay.{Course, published, published_at, world, past_of}
use Rattle.ledger_spec.specs.Views.{look, thread_shown}

-- a look that shows a thread shows one that meets the first clause of what hinders a step, with its datum
abbrev pub ShowsCurrentThreads : Course → Type 0
ShowsCurrentThreads c = (ask : Ask) (t : ThreadOutput) → thread_shown (world c) ask.thread ≡ Some t → (d : Datum) × (look_thread (look (world c) ask) ≡ Some (record { shown = t; datum = d }))

-- and it is that of the start output that the look asks for, shown where that ends
abbrev pub ShowsThreadsOfStarts : Course → Type 0
ShowsThreadsOfStarts c =
    (ask : Ask) (t : ThreadOutput) → thread_shown (world c) ask.thread ≡ Some t →
    (r : OutputRef) × (ask.thread ≡ Some r) × StartsThread (past_of (world c)) r × (thread_end marlowe (published_at (world c).published) (past_of (world c)) r ≡ Some t.reference)

-- with the datum that the output's maker brought, at the contract and in the state that the thread's last transaction left: to which the transaction
-- function led from the datum that this brought for the output that it spent. Where nobody stepped it, these are the start's
abbrev pub ShowsWhereThreadsStand : Course → Type 0
ShowsWhereThreadsStand c =
    (ask : Ask) (r : OutputRef) (i : Instance) (e : Thread) → ask.thread ≡ Some r → IsStart (past_of (world c)) r i → look_thread (look (world c) ask) ≡ Some e →
    (published_at (world c).published i.script ≡ Some e.shown.published) × ((m : Instance) × IsMade (past_of (world c)) e.shown.reference m × (m.datum ≡ e.datum))
    × ((run : List Member) → Carries (published_at (world c).published) (past_of (world c)) (thread_terms e) i.script (thread marlowe (published_at (world c).published) (past_of (world c)) r) run →
    ((thread_terms e).tree e.datum.cont ≡ contract_after ((thread_terms e).tree e.shown.published.root) run) × (e.datum.state ≡ state_after i.datum.state run))

-- and a thread that isn't over is shown
abbrev pub ShowsWhatIsNotOver : Course → Type 0
ShowsWhatIsNotOver c =
    (ask : Ask) (r : OutputRef) → ask.thread ≡ Some r → StartsThread (past_of (world c)) r →
    (thread_end marlowe (published_at (world c).published) (past_of (world c)) r ≡ None) ⊎ ((e : Thread) × (look_thread (look (world c) ask) ≡ Some e))

-- AFTER THE LAST TIMEOUT ANYONE CLOSES a thread that a look shows: without inputs and offers, in an interval that ends neither before its
-- start nor before the minimum time, nothing hinders it but that a number leaves 128 bits or that Close without accounts stands. Where
-- nothing does, the parties are paid all that the output held, and the layout is accepted while it is open
pub record IsClosedByAnyone (c : Course) (look : Look) (e : Thread) (r : StepRequest) : Type 0 where
  pub outcome : Closes r e (hinders_step look r)
  pub accepted : hinders_step look r ≡ None → IsOpenAfter c (step_spent r e) (layout_step look r) → Accepts c (layout_step look r)

abbrev pub AnyoneClosesShown : Course → Type 0
AnyoneClosesShown c =
    (ask : Ask) (e : Thread) (i : Interval) (signers : List (List ℕ)) (change : List ℕ) → look_thread (look (world c) ask) ≡ Some e →
    HasReached (last ((thread_terms e).tree e.datum.cont)) i.from → i.from ≤ℤ i.to → e.datum.state.min_time ≤ℤ i.to →
    IsClosedByAnyone c (look (world c) ask) e (closing i signers change)
