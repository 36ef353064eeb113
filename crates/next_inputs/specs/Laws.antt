-- What one input does to a transaction, in the terms of the transaction function.
use Rattle.std.specs.Prelude.{◌≡◌, ◌↔◌, ℕ, ℤ, ◌≤ℤ◌, List, [], ◌∷◌, ◌++◌, ◌⊎◌, Some, None, Ok, Err}
use Rattle.contract.specs.declared.fault.SemFault.{SemFault}
use Rattle.contract.specs.declared.fault.SemFault.TheVariants.{NoMatch, Ambiguous, Leaves128}
use Rattle.contract.specs.declared.input.Input.{Input}
use Rattle.contract.specs.declared.interval.Interval.{Interval}
use Rattle.contract.specs.States.States.{StateMaps}
use Rattle.contract.specs.Tree.{ContractTree, CaseTrees, when}
use Rattle.semantics.specs.Walk.{Turn, in_case, Standing, answer_of}
use Rattle.semantics.specs.Reduction.{Quiet}
use Rattle.semantics.specs.Computed.{computed}
use Rattle.next_inputs.specs.Opening.{opening, next_case, waits_until}

-- where an input takes a case, the turns of the transaction with that input alone are those of the opening, then that
-- case's; what follows may be refused as Ambiguous or because a number leaves 128 bits, and in no other way
abbrev pub TakesAsComputed : Type 0
TakesAsComputed = (i : Interval) (s : StateMaps) (c : ContractTree) (x : Input) (n : ℕ) → next_case i s c x ≡ Some n
    → ((rest : List Turn) × ((computed i s c (x ∷ [])).turns ≡ (opening i s c).turns ++ (in_case n ∷ rest)))
    × ((f : SemFault) → answer_of (computed i s c (x ∷ [])) ≡ Err f → (f ≡ Ambiguous) ⊎ (f ≡ Leaves128))

-- where it takes none, the transaction matches nothing, or a number leaves 128 bits
abbrev pub ElseIsRefused : Type 0
ElseIsRefused = (i : Interval) (s : StateMaps) (c : ContractTree) (x : Input) (a : Standing) → answer_of (opening i s c) ≡ Ok a
    → next_case i s c x ≡ None
    → (answer_of (computed i s c (x ∷ [])) ≡ Err NoMatch) ⊎ (answer_of (computed i s c (x ∷ [])) ≡ Err Leaves128)

-- a When waits over an interval just where it ends at the last moment or before
abbrev pub WaitsToTheLast : Type 0
WaitsToTheLast = (i : Interval) (s : StateMaps) (ks : CaseTrees) (timeout last : ℤ) (c : ContractTree) → waits_until (when ks timeout c) ≡ Some last
    → Quiet i s (when ks timeout c) ↔ (i.to ≤ℤ last)
