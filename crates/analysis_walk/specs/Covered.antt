-- A contract keeps limits from a place on, told along its tree. No reader of the promises needs this file: they follow
-- from it (`Laws.antt`).
use Rattle.std.specs.Prelude.{◌≡◌, ℕ, suc, ℤ, ◌≤ℤ◌, ◌<ℤ◌, true, false, List, [], ◌∷◌, ◌++◌}
use Rattle.std.specs.List.{AllByRecursion}
use Rattle.contract.specs.declared.input.Input.{Input}
use Rattle.contract.specs.declared.interval.Interval.{Interval}
use Rattle.contract.specs.declared.payment.Payment.{Payment}
use Rattle.contract.specs.declared.warning.Warning.{Warning}
use Rattle.contract.specs.Tree.{ActionTree, ContractTree, CaseTrees, close, pay, if_obs, when, let_be, assert, no_cases, case_then}
use Rattle.contract.specs.States.States.{StateMaps}
use Rattle.semantics.specs.Evaluation.Evaluation.{eval, visited, holds, looked}
use Rattle.semantics.specs.Reduction.{binding, asserting}
use Rattle.semantics.specs.Applying.{matches, tried, taken, taken_numbers, taken_warnings}
use Rattle.semantics.specs.Computed.{pay_step, refunds}
use Rattle.analysis_walk.specs.Limits.{Limits}
use Rattle.analysis_spec.specs.declared.path.PathStep.{PathStep}
use Rattle.analysis_spec.specs.declared.path.PathStep.TheVariants.{Then, Else, TimeoutContinuation, Case, Action}

-- no action takes the input
abbrev pub NoneTakes : Interval → StateMaps → Input → List ActionTree → Type 0
NoneTakes i s x [] = Unit {0}
NoneTakes i s x (a ∷ earlier) = (matches i s x a ≡ false) × NoneTakes i s x earlier

module _ (L : Limits) where
  -- what is visited and warned of at a place
  abbrev pub Keeps : List PathStep → List ℤ → List Warning → Type 0
  Keeps here ns ws = L.Visits here ns × AllByRecursion (L.Warns here) ws

  -- and what follows, as far as runs are spoken of behind these numbers
  abbrev pub KeepsThen : List PathStep → List ℤ → List Warning → Type 0 → Type 0
  KeepsThen here ns ws Follows = Keeps here ns ws × (L.Passes ns → Follows)

  -- an action that is tried, and what follows where an input is taken that no earlier one takes
  abbrev pub CoversAction : List PathStep → Interval → StateMaps → List ActionTree → ActionTree → (StateMaps → Type 0) → Type 0
  CoversAction here i s earlier a Follows =
      (x : Input) → NoneTakes i s x earlier →
      (matches i s x a ≡ false → L.Visits here (tried i s x a)) × (matches i s x a ≡ true → KeepsThen here (tried i s x a ++ taken_numbers s x) (taken_warnings x) (Follows (taken s x)))

  abbrev mutual
    -- the contract at a place is about to settle in this interval, in this state and after these payments: whatever comes
    -- from there on keeps the limits. A When may be gone on with in the same transaction or in a later one
    pub Covers : List PathStep → Interval → StateMaps → List Payment → ContractTree → Type 0
    Covers here i s ps close = L.Pays (ps ++ (refunds s).payments)
    Covers here i s ps (pay p y t v c) =
        let r = pay_step s p y t (eval i s v) (visited i s v) c in
        KeepsThen here r.numbers r.warnings (Covers (here ++ Then ∷ []) i r.state (ps ++ r.payments) c)
    Covers here i s ps (if_obs o c d) =
        KeepsThen here (looked i s o) [] ((holds i s o ≡ true → Covers (here ++ Then ∷ []) i s ps c) × (holds i s o ≡ false → Covers (here ++ Else ∷ []) i s ps d))
    Covers here i s ps (when ks timeout c) =
        (j : Interval) (now : ℤ) → i.from ≤ℤ j.from → j.from ≤ℤ j.to → L.Admits j → let later : StateMaps = record s { min_time = now } in
        (j.to <ℤ timeout → CoversCases here 0 j later ps [] ks) × (timeout ≤ℤ j.from → Covers (here ++ TimeoutContinuation ∷ []) j later ps c)
    Covers here i s ps (let_be x v c) =
        let r = binding s x (eval i s v) (visited i s v) c in
        KeepsThen here r.numbers r.warnings (Covers (here ++ Then ∷ []) i r.state ps c)
    Covers here i s ps (assert o c) =
        let r = asserting s (holds i s o) (looked i s o) c in
        KeepsThen here r.numbers r.warnings (Covers (here ++ Then ∷ []) i s ps c)

    -- each case, after the actions of earlier ones, of which there are so many
    pub CoversCases : List PathStep → ℕ → Interval → StateMaps → List Payment → List ActionTree → CaseTrees → Type 0
    CoversCases here n i s ps earlier no_cases = Unit {0}
    CoversCases here n i s ps earlier (case_then a c ks) =
        CoversAction (here ++ Action n ∷ []) i s earlier a (λ then. Covers (here ++ Case n ∷ []) i then ps c) × CoversCases here (suc n) i s ps (a ∷ earlier) ks

  -- a contract keeps the limits from a state on, in whatever transactions
  abbrev pub CoversFrom : StateMaps → ContractTree → Type 0
  CoversFrom s c = (i : Interval) → s.min_time ≤ℤ i.from → i.from ≤ℤ i.to → L.Admits i → Covers [] i (record s { min_time = i.from }) [] c
