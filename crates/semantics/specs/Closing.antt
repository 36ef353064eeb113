-- Closing after the last timeout: with neither inputs nor waiting, a contract runs to its end.
use Rattle.std.specs.Prelude.{◌≡◌, ℤ, ◌≤ℤ◌, [], ◌⊎◌, Option, Result, Ok, Err, IfSome}
use Rattle.std.specs.FinMap.{entries}
use Rattle.contract.specs.Names.declared.token.Token.{Token}
use Rattle.contract.specs.declared.fault.SemFault.{SemFault}
use Rattle.contract.specs.declared.fault.SemFault.TheVariants.{Useless, Leaves128}
use Rattle.contract.specs.declared.interval.Interval.{Interval}
use Rattle.contract.specs.States.States.{StateMaps, total_of}
use Rattle.contract.specs.Tree.{ContractTree, close}
use Rattle.evaluation.specs.Timeouts.{last}
use Rattle.semantics.specs.Walk.{Standing, answer_of}
use Rattle.semantics.specs.Computed.{computed}
use Rattle.semantics.specs.Money.{paid_out}

-- a time is at or after the last timeout: any is, without a When
abbrev pub HasReached : Option ℤ → ℤ → Type 0
HasReached timeout time = IfSome timeout (λ t. t ≤ℤ time)

-- Close without accounts, of which nothing can be asked
abbrev pub IsSpent : StateMaps → ContractTree → Type 0
IsSpent s c = (c ≡ close) × (entries s.accounts ≡ [])

-- what may come of it: Close without accounts, where the parties were paid all that the accounts held; or a number left
-- 128 bits; or there was nothing to do
abbrev pub ClosesSo : Interval → StateMaps → ContractTree → Result Standing SemFault → Type 0
ClosesSo i s c (Ok a) = IsSpent a.state a.contract × ((token : Token) → paid_out token (computed i s c []).payments ≡ total_of token s)
ClosesSo i s c (Err f) = (f ≡ Leaves128) ⊎ ((f ≡ Useless) × IsSpent s c)

-- from the last timeout on, without inputs, any contract runs to its end
abbrev pub ClosesAfterLast : Type 0
ClosesAfterLast = (i : Interval) (s : StateMaps) (c : ContractTree) → HasReached (last c) i.from → i.from ≤ℤ i.to → s.min_time ≤ℤ i.to
    → ClosesSo i s c (answer_of (computed i s c []))

-- and it is useless where there is nothing to do
abbrev pub SpentIsUseless : Type 0
SpentIsUseless = (i : Interval) (s : StateMaps) (c : ContractTree) → IsSpent s c → i.from ≤ℤ i.to → s.min_time ≤ℤ i.to
    → answer_of (computed i s c []) ≡ Err Useless
