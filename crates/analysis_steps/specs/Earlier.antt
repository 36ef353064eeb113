-- Inputs that an earlier case takes.
use Rattle.std.specs.Prelude.{◌≡◌, true, false, List, ◌++◌, All, Option}
use Rattle.std.specs.List.{AllByRecursion}
use Rattle.std.specs.Option.{IsSomeAnd}
use Rattle.contract.specs.Names.declared.party.Party.{Party}
use Rattle.contract.specs.Names.declared.token.Token.{Token}
use Rattle.contract.specs.declared.input.Input.TheVariants.{Deposit, Notify}
use Rattle.contract.specs.declared.interval.Interval.{Interval}
use Rattle.contract.specs.declared.payment.Payment.{Payment}
use Rattle.contract.specs.declared.tree.Case.{Case}
use Rattle.contract.specs.Tree.{ValueTree, ObservationTree, ActionTree, action_tree}
use Rattle.contract.specs.States.States.{StateMaps}
use Rattle.semantics.specs.Evaluation.Evaluation.{eval, visited, holds}
use Rattle.semantics.specs.Applying.{matches, taken, taken_numbers, taken_warnings}
use Rattle.analysis_walk.specs.Limits.{Scope, Allowed, GoesOn}
use Rattle.analysis_walk.specs.Covered.{NoneTakes}
use Rattle.analysis_walk.specs.Conclusions.{Concludes}
use Rattle.analysis_walk.specs.declared.conclusion.Conclusion.{Conclusion}
use Rattle.analysis_values.specs.Known.{Known, IsDescribed}

-- two values have one number
abbrev pub AreEqual : Known → ValueTree → ValueTree → Type 0
AreEqual k v w = (scope : Scope) (i : Interval) (s : StateMaps) (ps : List Payment) → IsDescribed scope k i s ps → eval i s v ≡ eval i s w

-- an action takes each deposit of a value
abbrev pub TakesDeposit : Known → ActionTree → Party → Party → Token → ValueTree → Type 0
TakesDeposit k a p q t v = (scope : Scope) (i : Interval) (s : StateMaps) (ps : List Payment) → IsDescribed scope k i s ps → matches i s (Deposit p q t (eval i s v)) a ≡ true

-- one of the earlier actions does
abbrev pub IsDepositTaken : Known → List ActionTree → Party → Party → Token → ValueTree → Type 0
IsDepositTaken k es p q t v = (scope : Scope) (i : Interval) (s : StateMaps) (ps : List Payment) → IsDescribed scope k i s ps → NoneTakes i s (Deposit p q t (eval i s v)) es → ⊥

-- what is concluded of a deposit whose case is only tried, and of one by whomever that is taken
abbrev pub Tries : Known → ValueTree → Conclusion Known → Type 0
Tries k v x = (scope : Scope) (i : Interval) (s : StateMaps) (ps : List Payment) → IsDescribed scope k i s ps → GoesOn scope x.kinds → AllByRecursion (Allowed scope) (visited i s v)

abbrev pub PutsIn : Known → Party → Token → ValueTree → Conclusion Known → Type 0
PutsIn k p t v x =
    (scope : Scope) (i : Interval) (s : StateMaps) (ps : List Payment) (q : Party) → IsDescribed scope k i s ps →
    let input = Deposit p q t (eval i s v) in Concludes IsDescribed scope x i (visited i s v ++ taken_numbers s input) (taken_warnings input) (taken s input) ps

-- an action takes no notify
abbrev pub IsIgnored : Interval → StateMaps → ActionTree → Type 0
IsIgnored i s a = matches i s Notify a ≡ false

-- what is known where an action takes none, and where no case does; none where that can't be
abbrev pub IsRefused : Known → ActionTree → Option Known → Type 0
IsRefused k a o = (scope : Scope) (i : Interval) (s : StateMaps) (ps : List Payment) → IsDescribed scope k i s ps → IsIgnored i s a → IsSomeAnd o (λ m. IsDescribed scope m i s ps)

abbrev pub IsIgnoredBy : Known → List Case → Option Known → Type 0
IsIgnoredBy k cases o =
    (scope : Scope) (i : Interval) (s : StateMaps) (ps : List Payment) → IsDescribed scope k i s ps → All (λ (c : Case). IsIgnored i s (action_tree c.action)) cases → IsSomeAnd o (λ m. IsDescribed scope m i s ps)

-- an observation is false
abbrev pub IsNeverSo : Known → ObservationTree → Type 0
IsNeverSo k o = (scope : Scope) (i : Interval) (s : StateMaps) (ps : List Payment) → IsDescribed scope k i s ps → holds i s o ≡ true → ⊥

-- .. or one of the earlier actions takes a notify
abbrev pub IsNotifyTaken : Known → List ActionTree → ObservationTree → Type 0
IsNotifyTaken k es o = (scope : Scope) (i : Interval) (s : StateMaps) (ps : List Payment) → IsDescribed scope k i s ps → NoneTakes i s Notify es → holds i s o ≡ true → ⊥
