-- What is known of a run at a place, and when what is concluded from it is true. No reader of the promises needs this file.
use Rattle.std.specs.Prelude.{◌≡◌, ℕ, ℤ, ◌≤ℤ◌, ◌<ℤ◌, true, List, [], ◌∷◌, ◌++◌, cond, Option, ◌⊎◌}
use Rattle.std.specs.List.{list_any, AllByRecursion}
use Rattle.std.specs.Option.{IsSomeAnd}
use Rattle.std.specs.FinMap.{insert}
use Rattle.contract.specs.Names.declared.party.Party.{Party}
use Rattle.contract.specs.Names.declared.payee.Payee.{Payee}
use Rattle.contract.specs.Names.declared.token.Token.{Token}
use Rattle.contract.specs.Names.declared.bound.Bound.{Bound}
use Rattle.contract.specs.Names.declared.choice_id.ChoiceId.{ChoiceId}
use Rattle.contract.specs.declared.input.Input.TheVariants.{Deposit, Choice, Notify}
use Rattle.contract.specs.declared.interval.Interval.{Interval}
use Rattle.contract.specs.declared.payment.Payment.{Payment}
use Rattle.contract.specs.declared.warning.Warning.{Warning}
use Rattle.contract.specs.Tree.{ValueTree, ObservationTree, ActionTree, ContractTree}
use Rattle.contract.specs.States.States.{StateMaps}
use Rattle.semantics.specs.Evaluation.Evaluation.{eval, visited, holds, looked}
use Rattle.semantics.specs.Reduction.{binding, asserting}
use Rattle.semantics.specs.Applying.{in_bound, taken, taken_numbers, taken_warnings}
use Rattle.semantics.specs.Computed.{pay_step, refunds}
use Rattle.analysis_spec.specs.declared.kind.AlarmKind.{AlarmKind}
use Rattle.analysis_spec.specs.Promises.{kind_of}
use Rattle.analysis_spec.specs.declared.paid.PaidRange.{PaidRange}
use Rattle.analysis_walk.specs.declared.conclusion.Conclusion.{Conclusion}
use Rattle.analysis_walk.specs.declared.conclusion.Branches.{Branches}
use Rattle.analysis_walk.specs.Limits.{Scope, Admitted, Allowed, GoesOn, LiesIn}
use Rattle.analysis_walk.specs.Covered.{NoneTakes}

-- a kind is one of these
abbrev pub IsAmong : List AlarmKind → AlarmKind → Type 0
IsAmong [] kind = ⊥
IsAmong (k ∷ ks) kind = (kind ≡ k) ⊎ IsAmong ks kind

-- what is known is true in the interval of a transaction, of the state, and of all payments before
abbrev pub Description : Type 0 → Type 1
Description K = Scope → K → Interval → StateMaps → List Payment → Type 0

-- a conclusion is true of a step that visits these numbers, warns so and leaves this state, and these payments in all. What is
-- known afterwards is so where the numbers are allowed, whatever alarms there are
pub record Concludes {K : Type 0} (Describes : Description K) (scope : Scope) (x : Conclusion K) (i : Interval) (ns : List ℤ) (ws : List Warning) (s : StateMaps) (ps : List Payment) : Type 0 where
  pub warned : AllByRecursion (λ w. IsAmong x.kinds (kind_of w)) ws
  pub numbers : GoesOn scope x.kinds → AllByRecursion (Allowed scope) ns
  pub known : AllByRecursion (Allowed scope) ns → IsSomeAnd x.known (λ m. Describes scope m i s ps)

-- ---- conclusions that are true wherever what is known is

module _ {K : Type 0} (Describes : Description K) where
  -- of a Pay, a Let and an Assert
  abbrev pub PaysSo : K → Party → Payee → Token → ValueTree → Conclusion K → Type 0
  PaysSo k p y t v x =
      (scope : Scope) (i : Interval) (s : StateMaps) (ps : List Payment) (c : ContractTree) → Describes scope k i s ps →
      let r = pay_step s p y t (eval i s v) (visited i s v) c in Concludes Describes scope x i r.numbers r.warnings r.state (ps ++ r.payments)

  abbrev pub BindsSo : K → List ℕ → ValueTree → Conclusion K → Type 0
  BindsSo k name v x =
      (scope : Scope) (i : Interval) (s : StateMaps) (ps : List Payment) (c : ContractTree) → Describes scope k i s ps →
      let r = binding s name (eval i s v) (visited i s v) c in Concludes Describes scope x i r.numbers r.warnings r.state ps

  abbrev pub AssertsSo : K → ObservationTree → Conclusion K → Type 0
  AssertsSo k o x =
      (scope : Scope) (i : Interval) (s : StateMaps) (ps : List Payment) (c : ContractTree) → Describes scope k i s ps →
      let r = asserting s (holds i s o) (looked i s o) c in Concludes Describes scope x i r.numbers r.warnings s ps

  -- of an observation
  abbrev pub ObservesSo : K → ObservationTree → Branches K → Type 0
  ObservesSo k o x =
      (scope : Scope) (i : Interval) (s : StateMaps) (ps : List Payment) → Describes scope k i s ps →
      let branch : Conclusion K = record { kinds = x.kinds; known = cond (holds i s o) x.if_true x.if_false } in Concludes Describes scope branch i (looked i s o) [] s ps

  -- of an input that no earlier case takes: a deposit of one party into the account of another, a choice, and a notify. Of
  -- the numbers of a case that is only tried, too
  abbrev pub DepositsSo : K → List ActionTree → Party → Party → Token → ValueTree → Conclusion K → Type 0
  DepositsSo k earlier p q t v x =
      (scope : Scope) (i : Interval) (s : StateMaps) (ps : List Payment) → Describes scope k i s ps →
      let input = Deposit p q t (eval i s v) in
      (GoesOn scope x.kinds → AllByRecursion (Allowed scope) (visited i s v))
      × (NoneTakes i s input earlier → Concludes Describes scope x i (visited i s v ++ taken_numbers s input) (taken_warnings input) (taken s input) ps)

  abbrev pub ChoosesSo : K → List ActionTree → ChoiceId → List Bound → Conclusion K → Type 0
  ChoosesSo k earlier id bounds x =
      (scope : Scope) (i : Interval) (s : StateMaps) (ps : List Payment) (n : ℤ) → Describes scope k i s ps → NoneTakes i s (Choice id n) earlier → list_any (in_bound n) bounds ≡ true
      → Concludes Describes scope x i [] [] (record s { choices = insert s.choices id n }) ps

  abbrev pub NotifiesSo : K → List ActionTree → ObservationTree → Conclusion K → Type 0
  NotifiesSo k earlier o x =
      (scope : Scope) (i : Interval) (s : StateMaps) (ps : List Payment) → Describes scope k i s ps →
      (GoesOn scope x.kinds → AllByRecursion (Allowed scope) (looked i s o)) × (NoneTakes i s Notify earlier → holds i s o ≡ true → Concludes Describes scope x i (looked i s o) [] s ps)

  -- in this transaction and in any later one, whatever the minimum time is; then where a When waits, and where it has timed out
  abbrev pub IsLater : K → K → Type 0
  IsLater k m =
      (scope : Scope) (i j : Interval) (s : StateMaps) (ps : List Payment) (now : ℤ) → Describes scope k i s ps → i.from ≤ℤ j.from → j.from ≤ℤ j.to → Admitted scope j
      → Describes scope m j (record s { min_time = now }) ps

  abbrev pub WaitsSo : K → ℤ → Option K → Type 0
  WaitsSo k timeout o = (scope : Scope) (i : Interval) (s : StateMaps) (ps : List Payment) → Describes scope k i s ps → i.to <ℤ timeout → IsSomeAnd o (λ m. Describes scope m i s ps)

  abbrev pub TimesOutSo : K → ℤ → Option K → Type 0
  TimesOutSo k timeout o = (scope : Scope) (i : Interval) (s : StateMaps) (ps : List Payment) → Describes scope k i s ps → timeout ≤ℤ i.from → IsSomeAnd o (λ m. Describes scope m i s ps)

  -- where the contract is closed, what has been paid in all lies in these ranges
  abbrev pub ClosesIn : K → List PaidRange → Type 0
  ClosesIn k ranges = (scope : Scope) (i : Interval) (s : StateMaps) (ps : List Payment) → Describes scope k i s ps → AllByRecursion (LiesIn (ps ++ (refunds s).payments)) ranges

  -- what is known before the first transaction, whatever interval it has
  abbrev pub DescribesStart : Scope → K → StateMaps → Type 0
  DescribesStart scope k s = (i : Interval) → s.min_time ≤ℤ i.from → i.from ≤ℤ i.to → Admitted scope i → Describes scope k i (record s { min_time = i.from }) []
