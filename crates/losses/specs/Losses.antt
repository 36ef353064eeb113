-- What a party can lose: what it brings into a contract, less what it is paid.
use Rattle.std.specs.Prelude.{ℤ, pos, ◌+ℤ◌, ◌≤ℤ◌, cond, List, [], ◌∷◌, ◌++◌, Result, Ok, Err}
use Rattle.std.specs.Int.{int_max}
use Rattle.contract.specs.Collections.Total.{total}
use Rattle.contract.specs.Names.declared.party.Party.{Party}
use Rattle.contract.specs.Names.declared.token.Token.{Token}
use Rattle.contract.specs.Names.Equal.{same_party}
use Rattle.contract.specs.declared.fault.SemFault.{SemFault}
use Rattle.contract.specs.declared.input.Input.{Input}
use Rattle.contract.specs.declared.input.Input.TheVariants.{Deposit, Choice, Notify}
use Rattle.contract.specs.declared.transaction.Transaction.{Transaction}
use Rattle.contract.specs.Tree.{ContractTree}
use Rattle.contract.specs.States.States.{StateMaps, counted}
use Rattle.semantics.specs.Walk.{Standing, standing, answer_of}
use Rattle.semantics.specs.Closing.{IsSpent}
use Rattle.analysis_spec.specs.Runs.{walk_from, standing_after, stands_after, payments_of, paid_to}

-- what a party brings of a token by an input: a deposit of 0 or less brings nothing
abbrev pub brought : Party → Token → Input → ℤ
brought party token (Deposit a p t n) = cond (same_party party p) (counted token t (int_max (pos 0) n)) (pos 0)
brought party token (Choice id n) = pos 0
brought party token Notify = pos 0

-- the inputs that a transaction takes: none where it is refused
abbrev pub inputs_with : Result Standing SemFault → List Input → List Input
inputs_with (Ok a) xs = xs
inputs_with (Err f) xs = []

-- the inputs that transactions take, in order
abbrev pub inputs_of : Standing → List Transaction → List Input
inputs_of a [] = []
inputs_of a (t ∷ ts) = inputs_with (answer_of (walk_from a t)) t.inputs ++ inputs_of (standing_after a t) ts

-- how much of a token a party brings
abbrev pub brought_by : Party → Token → List Input → ℤ
brought_by party token = total (brought party token)

-- in each run that leaves nothing in the contract, a party brought at most so much more of a token than it was paid
abbrev pub LosesAtMost : Party → Token → ℤ → StateMaps → ContractTree → Type 0
LosesAtMost party token n s c =
    (ts : List Transaction) → let a = standing s c in let b = stands_after a ts in
    IsSpent b.state b.contract → brought_by party token (inputs_of a ts) ≤ℤ (paid_to party token (payments_of a ts) +ℤ n)
