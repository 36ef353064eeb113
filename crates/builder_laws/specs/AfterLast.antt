-- After the last timeout anyone can close a thread: without inputs, and with nothing offered.
use Rattle.std.specs.Prelude.{◌≡◌, ℕ, ◌≤ℤ◌, List, Some, None}
use Rattle.contract.specs.declared.interval.Interval.{Interval}
use Rattle.ledger_spec.specs.Evaluation.Timeouts.{last}
use Rattle.ledger_spec.specs.Semantics.Closing.{HasReached}
use Rattle.ledger_spec.specs.EutxoTypes.Fitting.{OutputFits}
use Rattle.ledger_spec.specs.Ledger.declared.look.Look.{Look}
use Rattle.ledger_spec.specs.BuilderSpec.declared.fault.BuildFault.TheVariants.{NoThread}
use Rattle.ledger_spec.specs.BuilderSpec.Closings.{closing, Closes}
use Rattle.ledger_spec.specs.BuilderSpec.Parts.{hinders_step}
use Rattle.ledger_spec.specs.BuilderSpec.Steps.{Thread, thread_terms, look_thread}

-- ANYONE CLOSES A THREAD from the last timeout on, in an interval that ends neither before its start nor before the minimum time. (Its
-- output fits its spelling, as all do that are made.)
abbrev pub AnyoneCloses : Type 0
AnyoneCloses = (look : Look) (e : Thread) (i : Interval) (signers : List (List ℕ)) (change : List ℕ) → look_thread look ≡ Some e → OutputFits e.shown.output →
    HasReached (last ((thread_terms e).tree e.datum.cont)) i.from → i.from ≤ℤ i.to → e.datum.state.min_time ≤ℤ i.to →
    Closes (closing i signers change) e (hinders_step look (closing i signers change))

-- where no thread stands, that hinders it
abbrev pub NoThreadHinders : Type 0
NoThreadHinders = (look : Look) (i : Interval) (signers : List (List ℕ)) (change : List ℕ) → look_thread look ≡ None → hinders_step look (closing i signers change) ≡ Some NoThread
