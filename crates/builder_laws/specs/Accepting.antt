-- When the layout of a request is accepted.
use Rattle.std.specs.Prelude.{◌≡◌, true, List, ◌++◌, map, Option, Some, None, is_some}
use Rattle.ledger_spec.specs.EutxoTypes.declared.output.Output.{Output}
use Rattle.ledger_spec.specs.EutxoTypes.declared.tx.Tx.{Tx}
use Rattle.ledger_spec.specs.Eutxo.declared.resolved.Resolved.{Resolved}
use Rattle.ledger_spec.specs.Eutxo.Found.{script_at, whole}
use Rattle.ledger_spec.specs.Eutxo.Judgement.{Moment, judge}
use Rattle.ledger_spec.specs.Eutxo.Local.{local}
use Rattle.ledger_spec.specs.Roles.declared.published.Published.{Published}
use Rattle.ledger_spec.specs.Ledger.declared.look.Unspent.{Unspent}
use Rattle.ledger_spec.specs.BuilderSpec.Requests.{StepsRequest, StartRequest, ClaimRequest}
use Rattle.ledger_spec.specs.BuilderSpec.Parts.{threads_of, parts_spent, ArePublished, hinders_steps, layout_steps}
use Rattle.ledger_spec.specs.BuilderSpec.Steps.{Stepped}
use Rattle.ledger_spec.specs.BuilderSpec.Starts.{start_front, hinders_start, layout_start}
use Rattle.ledger_spec.specs.BuilderSpec.Claims.{claim_front, hinders_claim, layout_claim}
use Rattle.ledger_spec.specs.Roles.Steps.{marlowe}
use Rattle.ledger_spec.specs.Open.{Admits}

-- ---- on what was handed in

-- the outputs of what is spent, as they were handed in
abbrev pub contents : List Unspent → List (Option Output)
contents spent = map (λ u. Some u.output) spent

-- of a transaction and a resolution of it nothing is missing, and no rule refuses
abbrev pub Passes : Tx → Resolved Published → Type 0
Passes tx found = (is_some (whole tx found) ≡ true) × (local marlowe tx found ≡ None)

-- steps of threads that nothing hinders pass on what was handed in: the outputs that they spend, and the scripts of all threads
abbrev pub PartsPass : Type 0
PartsPass = (r : StepsRequest) (ss : List Stepped) (found : Resolved Published) → threads_of r.parts ≡ Some ss → hinders_steps r ≡ None →
    found.outputs ≡ contents (parts_spent r ss) → ArePublished (script_at found.scripts) ss → Passes (layout_steps r) found

-- so does a start, with the script that is started
abbrev pub StartsPass : Type 0
StartsPass = (r : StartRequest) (found : Resolved Published) → hinders_start r ≡ None →
    found.outputs ≡ contents (start_front r) → script_at found.scripts r.published.id ≡ Some r.published → Passes (layout_start r) found

-- and a claim
abbrev pub ClaimsPass : Type 0
ClaimsPass = (r : ClaimRequest) (found : Resolved Published) → hinders_claim r ≡ None → found.outputs ≡ contents (r.payouts ++ claim_front r) → Passes (layout_claim r) found

-- ---- on a ledger

-- STEPS THAT NOTHING HINDERS ARE ACCEPTED, be they of one thread or of several, at every such moment at which each thread's script is published as its look
-- shows it
abbrev pub PartsAreAccepted : Type 0
PartsAreAccepted = (r : StepsRequest) (ss : List Stepped) (m : Moment Published) → threads_of r.parts ≡ Some ss → hinders_steps r ≡ None →
    ArePublished m.published ss → Admits m (parts_spent r ss) (layout_steps r) → judge marlowe m (layout_steps r) ≡ None

-- SO IS A START, where what is started is published under its id
abbrev pub StartsAreAccepted : Type 0
StartsAreAccepted = (r : StartRequest) (m : Moment Published) → hinders_start r ≡ None →
    m.published r.published.id ≡ Some r.published → Admits m (start_front r) (layout_start r) → judge marlowe m (layout_start r) ≡ None

-- AND A CLAIM
abbrev pub ClaimsAreAccepted : Type 0
ClaimsAreAccepted = (r : ClaimRequest) (m : Moment Published) → hinders_claim r ≡ None → Admits m (r.payouts ++ claim_front r) (layout_claim r) → judge marlowe m (layout_claim r) ≡ None
