-- Paths into a contract that no run takes, told along them. No reader of the promises needs this file: they follow from it
-- (`Laws.antt`).
use Rattle.std.specs.Prelude.{◌≡◌, ℕ, zero, suc, ℤ, ◌≤ℤ◌, ◌<ℤ◌, true, false, List, [], ◌∷◌, ◌++◌}
use Rattle.contract.specs.declared.input.Input.{Input}
use Rattle.contract.specs.declared.interval.Interval.{Interval}
use Rattle.contract.specs.declared.payment.Payment.{Payment}
use Rattle.contract.specs.Tree.{ActionTree, ContractTree, CaseTrees, close, pay, if_obs, when, let_be, assert, no_cases, case_then}
use Rattle.contract.specs.States.States.{StateMaps}
use Rattle.semantics.specs.Evaluation.Evaluation.{eval, visited, holds, looked}
use Rattle.semantics.specs.Reduction.{binding, asserting}
use Rattle.semantics.specs.Applying.{matches, taken}
use Rattle.semantics.specs.Computed.{pay_step}
use Rattle.analysis_spec.specs.declared.path.PathStep.{PathStep}
use Rattle.analysis_spec.specs.declared.path.PathStep.TheVariants.{Then, Else, TimeoutContinuation, Case}
use Rattle.analysis_walk.specs.Covered.{NoneTakes}
use Rattle.analysis_walk.specs.Limits.{any_runs}
use Rattle.analysis_walk.specs.Conclusions.{Description}

abbrev mutual
  -- the contract is about to settle in this interval, in this state and after these payments: whatever comes, no run takes
  -- the path to its end. A When may be gone on with in the same transaction or in a later one
  pub Avoids : Interval → StateMaps → List Payment → ContractTree → List PathStep → Type 0
  Avoids i s ps c [] = ⊥
  Avoids i s ps (pay p y t v c) (Then ∷ path) = let r = pay_step s p y t (eval i s v) (visited i s v) c in Avoids i r.state (ps ++ r.payments) c path
  Avoids i s ps (if_obs o c d) (Then ∷ path) = holds i s o ≡ true → Avoids i s ps c path
  Avoids i s ps (if_obs o c d) (Else ∷ path) = holds i s o ≡ false → Avoids i s ps d path
  Avoids i s ps (when ks timeout c) (TimeoutContinuation ∷ path) =
      (j : Interval) (now : ℤ) → i.from ≤ℤ j.from → j.from ≤ℤ j.to → timeout ≤ℤ j.from → Avoids j (record s { min_time = now }) ps c path
  Avoids i s ps (when ks timeout c) (Case n ∷ path) =
      (j : Interval) (now : ℤ) → i.from ≤ℤ j.from → j.from ≤ℤ j.to → j.to <ℤ timeout → AvoidsCase j (record s { min_time = now }) ps [] ks n path
  Avoids i s ps (let_be x v c) (Then ∷ path) = let r = binding s x (eval i s v) (visited i s v) c in Avoids i r.state ps c path
  Avoids i s ps (assert o c) (Then ∷ path) = Avoids i s ps c path
  Avoids i s ps c (step ∷ path) = Unit {0}

  -- what follows a case among these, by its index, where it takes an input that no earlier one takes
  pub AvoidsCase : Interval → StateMaps → List Payment → List ActionTree → CaseTrees → ℕ → List PathStep → Type 0
  AvoidsCase i s ps earlier no_cases n path = Unit {0}
  AvoidsCase i s ps earlier (case_then a c ks) zero path = (x : Input) → NoneTakes i s x earlier → matches i s x a ≡ true → Avoids i (taken s x) ps c path
  AvoidsCase i s ps earlier (case_then a c ks) (suc n) path = AvoidsCase i s ps (a ∷ earlier) ks n path

-- no run from a state takes the path
abbrev pub AvoidsFrom : StateMaps → ContractTree → List PathStep → Type 0
AvoidsFrom s c path = (i : Interval) → s.min_time ≤ℤ i.from → i.from ≤ℤ i.to → Avoids i (record s { min_time = i.from }) [] c path

-- ---- from what is known

module _ {K : Type 0} (Describes : Description K) where
  -- wherever this is known, no run takes the path into a contract
  abbrev pub IsAvoided : K → ContractTree → List PathStep → Type 0
  IsAvoided k c path = (i : Interval) (s : StateMaps) (ps : List Payment) → Describes any_runs k i s ps → Avoids i s ps c path

  -- nor the one behind a case of these
  abbrev pub IsCaseAvoided : K → CaseTrees → ℕ → List PathStep → Type 0
  IsCaseAvoided k ks n path = (i : Interval) (s : StateMaps) (ps : List Payment) → Describes any_runs k i s ps → AvoidsCase i s ps [] ks n path

  -- nor the one behind an action, where no earlier one takes its input
  abbrev pub IsTakenAvoided : K → List ActionTree → ActionTree → ContractTree → List PathStep → Type 0
  IsTakenAvoided k earlier a c path =
      (i : Interval) (s : StateMaps) (ps : List Payment) (x : Input) → Describes any_runs k i s ps → NoneTakes i s x earlier → matches i s x a ≡ true → Avoids i (taken s x) ps c path
