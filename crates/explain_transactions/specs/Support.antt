-- No reader needs this file: it serves private functions.
-- How a walk through a transaction goes on from where it stands, and where it stops.
use Rattle.std.specs.Prelude.{◌≡◌, ℕ, ℤ, ◌≤ℤ◌, ◌<ℤ◌, int_lt, int_le, ◌<◌, ◌&&◌, if◌then◌else◌, Bool, true, false, List, [], ◌∷◌, ◌++◌, length, Option, Some, None, IsOk, MatchOption, ◌⊎◌}
use Rattle.contract.specs.Names.declared.party.Party.{Party}
use Rattle.contract.specs.Names.declared.payee.Payee.TheVariants.{Account as ToAccount}
use Rattle.contract.specs.Names.declared.token.Token.{Token}
use Rattle.contract.specs.declared.input.Input.{Input}
use Rattle.contract.specs.declared.input.Input.TheVariants.{Deposit}
use Rattle.contract.specs.declared.interval.Interval.{Interval}
use Rattle.contract.specs.Tree.{ActionTree, ContractTree, CaseTrees, contract_tree, pay, when}
use Rattle.contract.specs.States.States.{StateMaps}
use Rattle.semantics.specs.Evaluation.Numbers.{all_fit}
use Rattle.semantics.specs.Evaluation.Path.{waits_for}
use Rattle.semantics.specs.Walk.{Standing, standing, answer_of}
use Rattle.semantics.specs.Reduction.{Quiet, account_of}
use Rattle.semantics.specs.Applying.{taken}
use Rattle.semantics.specs.Transaction.{trimmed, begun}
use Rattle.semantics.specs.Computed.{computed}
use Rattle.semantics.proofs.Settling.{height}
use Rattle.next_inputs.specs.Taking.{taken_case, leaving_case}
use Rattle.analysis_spec.specs.declared.path.PathStep.TheVariants.{Case, Action}
use Rattle.trace.specs.declared.sequence.Left.{Left}
use Rattle.explain_transactions.specs.declared.explanation.Explanation.{Explanation}
use Rattle.explain_transactions.specs.declared.explanation.Explanation.TheVariants as why
use Rattle.explain_transactions.specs.declared.finding.Found.{Found}
use Rattle.explain_transactions.specs.declared.finding.Found.TheVariants as found
use Rattle.explain_transactions.specs.declared.stop.Stop.{Stop}
use Rattle.explain_transactions.specs.declared.stop.Stop.TheVariants as stops
use Rattle.explain_transactions.specs.declared.stop.Moved.{Moved}
use Rattle.explain_transactions.specs.declared.stop.Moved.TheVariants as moved
use Rattle.explain_transactions.specs.Moves.{IsTaken, Comes}
use Rattle.explain_transactions.specs.Explained.{own_numbers, PaymentLeaves, DepositLeaves, Explains}

-- how a contract stands
abbrev pub here : Left → Standing
here left = standing left.state (contract_tree left.contract.now)

-- ---- cases

-- what an input comes to
abbrev pub IsFound : Interval → StateMaps → Input → List (ActionTree × ContractTree) → Found → Type 0
IsFound j s x ks found.Nowhere = (taken_case j s x ks ≡ None) × (leaving_case j s x ks ≡ None)
IsFound j s x ks (found.At n) = (taken_case j s x ks ≡ Some n) × (n < length ks)
IsFound j s x ks (found.Leaves n) = leaving_case j s x ks ≡ Some n

-- ---- reductions

-- the timeout of a When that lies inside the interval
abbrev pub timeout_inside : Interval → ContractTree → Option ℤ
timeout_inside j (when ks t c) = if int_lt j.from t && int_le t j.to then Some t else None
timeout_inside j c = None

abbrev pub IsInside : Interval → ContractTree → ℤ → Type 0
IsInside j c t = (ks : CaseTrees) × (d : ContractTree) × (c ≡ when ks t d) × (j.from <ℤ t) × (t ≤ℤ j.to)

-- why a contract can't be reduced
abbrev pub Stops : Interval → StateMaps → ContractTree → Stop → Type 0
Stops j s c (stops.Ambiguous t) = IsInside j c t
Stops j s c stops.Value = all_fit (own_numbers j s c) ≡ false
Stops j s c (stops.Sum p t) = PaymentLeaves j s c (account_of p.now t.now)
Stops j s c stops.Unmatched = ⊥

-- a payment into the account of an owner and a token
abbrev pub PaysInto : ContractTree → Party → Token → Type 0
PaysInto (pay p (ToAccount q) t v c) o u = (o ≡ q) × (u ≡ t)
PaysInto c o u = ⊥

abbrev pub IsPayment : Moved → ContractTree → Type 0
IsPayment (moved.Stops (stops.Sum o u)) c = PaysInto c o.now u.now
IsPayment (moved.Stops stop) c = ⊥
IsPayment moved.On c = ⊥
IsPayment moved.Rests c = ⊥

-- moves that take these inputs lead from one place to another
abbrev pub LeadsTo : Interval → List Input → Left → Left → StateMaps → Type 0
LeadsTo j front old new t = Comes j front old.path (here old) new.path (standing t (contract_tree new.contract.now))

-- and there all is quiet
abbrev pub RestsAfter : Interval → List Input → Left → Left → Type 0
RestsAfter j front old new = LeadsTo j front old new new.state × Quiet j new.state (contract_tree new.contract.now)

-- or something stops them, in some state
abbrev pub StopsAfter : Interval → List Input → Left → Left → Stop → Type 0
StopsAfter j front old new stop = (t : StateMaps) × LeadsTo j front old new t × Stops j t (contract_tree new.contract.now) stop

-- where a reduction has come: it goes on, rests, or is stopped
abbrev pub HasMoved : Interval → Left → Left → Moved → Type 0
HasMoved j old new moved.On = LeadsTo j [] old new new.state
HasMoved j old new moved.Rests = RestsAfter j [] old new
HasMoved j old new (moved.Stops stop) = StopsAfter j [] old new stop

abbrev pub is_on : Moved → Bool
is_on moved.On = true
is_on m = false

-- one that goes on comes to a lesser part
abbrev pub Descends : Left → Left → Moved → Type 0
Descends old new moved.On = height (contract_tree new.contract.now) < height (contract_tree old.contract.now)
Descends old new m = Unit {0}

abbrev pub Settles : Interval → Left → Left → Option Stop → Type 0
Settles j old new None = RestsAfter j [] old new
Settles j old new (Some stop) = StopsAfter j [] old new stop

-- ---- inputs

-- a deposit into the account of an owner and a token
abbrev pub DepositsInto : Input → Party → Token → Type 0
DepositsInto (Deposit a p t n) o u = (o ≡ a) × (u ≡ t)
DepositsInto x o u = ⊥

abbrev pub IsDeposit : Option Stop → Input → Type 0
IsDeposit (Some (stops.Sum o u)) x = DepositsInto x o.now u.now
IsDeposit (Some stop) x = ⊥
IsDeposit None x = ⊥

-- an input is taken, or it isn't
abbrev pub TakesOrStops : Interval → Input → Left → Left → Option Stop → Type 0
TakesOrStops j x old new None =
    (n : ℕ) × (k : ActionTree × ContractTree) × IsTaken j (here old) x n k × (here new ≡ standing (taken old.state x) k.1) × (new.path ≡ old.path ++ Case n ∷ [])
TakesOrStops j x old new (Some stops.Unmatched) =
    (here new ≡ here old) × (new.path ≡ old.path) × (taken_case j old.state x (waits_for (contract_tree old.contract.now)) ≡ None)
    × (leaving_case j old.state x (waits_for (contract_tree old.contract.now)) ≡ None)
TakesOrStops j x old new (Some stops.Value) =
    (n : ℕ) × (leaving_case j old.state x (waits_for (contract_tree old.contract.now)) ≡ Some n) × (new.path ≡ old.path ++ Action n ∷ [])
TakesOrStops j x old new (Some (stops.Sum p t)) =
    (n : ℕ) × (taken_case j old.state x (waits_for (contract_tree old.contract.now)) ≡ Some n) × DepositLeaves old.state x (account_of p.now t.now) × (new.path ≡ old.path ++ Action n ∷ [])
TakesOrStops j x old new (Some (stops.Ambiguous t)) = ⊥

-- an input is taken and the contract settles again, or one of these stops
abbrev pub TakesAndSettles : Interval → Input → Left → Left → Option Stop → Type 0
TakesAndSettles j x old new None = RestsAfter j (x ∷ []) old new
TakesAndSettles j x old new (Some stop) = TakesOrStops j x old new (Some stop) ⊎ StopsAfter j (x ∷ []) old new stop

-- ---- the transaction

-- what is told of what stops it, where so many inputs came before
abbrev pub explanation : Left → ℕ → Stop → Explanation
explanation left n (stops.Ambiguous t) = why.Ambiguous left.path t
explanation left n stops.Value = why.ValueLeaves left.path
explanation left n (stops.Sum p t) = why.SumLeaves left.path p t
explanation left n stops.Unmatched = why.NoMatch n left

-- from wherever the interval is fixed so, and there is something to do, the transaction is accepted, or this explains it
abbrev pub Tells : Interval → StateMaps → ContractTree → List Input → Option Explanation → Type 0
Tells j t c xs told =
    (i : Interval) (s : StateMaps) → i.from ≤ℤ i.to → s.min_time ≤ℤ i.to → trimmed i s ≡ j → begun i s ≡ t → (xs ≡ [] → Quiet j t c → ⊥)
    → MatchOption told (IsOk (answer_of (computed i s c xs))) (Explains i s c xs)
