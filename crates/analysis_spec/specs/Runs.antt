-- Runs: transactions on a contract, one after another.
use Rattle.std.specs.Prelude.{ℤ, pos, cond, Result, Ok, Err, List, [], ◌∷◌, ◌++◌}
use Rattle.std.specs.Result.{result_unwrap_or}
use Rattle.contract.specs.Collections.Total.{total}
use Rattle.contract.specs.Names.declared.party.Party.{Party}
use Rattle.contract.specs.Names.declared.payee.Payee.{Payee}
use Rattle.contract.specs.Names.declared.payee.Payee.TheVariants.{Account as ToAccount, Party as ToParty}
use Rattle.contract.specs.Names.declared.token.Token.{Token}
use Rattle.contract.specs.Names.Equal.{same_party}
use Rattle.contract.specs.declared.fault.SemFault.{SemFault}
use Rattle.contract.specs.declared.payment.Payment.{Payment}
use Rattle.contract.specs.declared.transaction.Transaction.{Transaction}
use Rattle.contract.specs.States.States.{counted}
use Rattle.semantics.specs.Walk.{Standing, Walk, answer_of}
use Rattle.semantics.specs.Computed.{computed}

-- what a transaction does where a contract stands
abbrev pub walk_from : Standing → Transaction → Walk
walk_from a t = computed t.interval a.state a.contract t.inputs

-- where the contract stands afterwards: one that is refused changes nothing
abbrev pub standing_after : Standing → Transaction → Standing
standing_after a t = result_unwrap_or (answer_of (walk_from a t)) a

-- where it stands after transactions, each from where the one before it ended
abbrev pub stands_after : Standing → List Transaction → Standing
stands_after a [] = a
stands_after a (t ∷ ts) = stands_after (standing_after a t) ts

-- what a transaction pays: nothing where it is refused
abbrev pub paid_with : Result Standing SemFault → List Payment → List Payment
paid_with (Ok a) ps = ps
paid_with (Err f) ps = []

-- the payments of transactions, in order
abbrev pub payments_of : Standing → List Transaction → List Payment
payments_of a [] = []
payments_of a (t ∷ ts) = paid_with (answer_of (walk_from a t)) (walk_from a t).payments ++ payments_of (standing_after a t) ts

-- what reaches a party: a payment into an account stays inside the contract
abbrev pub reaches_party : Party → Payee → ℤ → ℤ
reaches_party party (ToParty p) amount = cond (same_party party p) amount (pos 0)
reaches_party party (ToAccount p) amount = pos 0

-- how much of a token a party is paid
abbrev pub paid_to : Party → Token → List Payment → ℤ
paid_to party token = total (λ p. reaches_party party p.to (counted token p.token p.amount))
