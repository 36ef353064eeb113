-- What a transaction pays is never below 0, and its accounts stay above 0.
use Rattle.std.specs.Prelude.{◌≡◌, pos, ◌≤ℤ◌, List, [], ◌∷◌, Ok}
use Rattle.std.specs.FinMap.{entries}
use Rattle.contract.specs.declared.input.Input.{Input}
use Rattle.contract.specs.declared.interval.Interval.{Interval}
use Rattle.contract.specs.declared.payment.Payment.{Payment}
use Rattle.contract.specs.States.States.{StateMaps, AllPositive}
use Rattle.contract.specs.Tree.{ContractTree}
use Rattle.semantics.specs.Walk.{Standing}
use Rattle.semantics.specs.Computed.{computed}

-- no payment is below 0
abbrev pub AreNatural : List Payment → Type 0
AreNatural [] = Unit {0}
AreNatural (p ∷ ps) = (pos 0 ≤ℤ p.amount) × AreNatural ps

-- from accounts above 0 no payment of a transaction is below 0, one that is refused included
abbrev pub PaymentsAreNatural : Type 0
PaymentsAreNatural = (i : Interval) (s : StateMaps) (c : ContractTree) (xs : List Input) → AllPositive (entries s.accounts) → AreNatural (computed i s c xs).payments

-- and where it succeeds, its accounts are above 0
abbrev pub AccountsStayPositive : Type 0
AccountsStayPositive = (i : Interval) (s : StateMaps) (c : ContractTree) (xs : List Input) (a : Standing) → AllPositive (entries s.accounts) → (computed i s c xs).end ≡ Ok a
    → AllPositive (entries a.state.accounts)
