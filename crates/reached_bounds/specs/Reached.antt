-- Runs that reach a bound: of what a party is paid, and of what it can lose.
use Rattle.std.specs.Prelude.{◌≡◌, ℤ, ◌+ℤ◌, ◌≤ℤ◌, IsOk, List, [], ◌∷◌, Option, Some}
use Rattle.contract.specs.Names.declared.party.Party.{Party}
use Rattle.contract.specs.Names.declared.token.Token.{Token}
use Rattle.contract.specs.declared.transaction.Transaction.{Transaction}
use Rattle.contract.specs.Tree.{ContractTree}
use Rattle.contract.specs.States.States.{StateMaps}
use Rattle.semantics.specs.Walk.{Standing, standing, answer_of}
use Rattle.semantics.specs.Closing.{IsSpent}
use Rattle.analysis_spec.specs.Runs.{walk_from, standing_after, stands_after, payments_of, paid_to}
use Rattle.analysis_spec.specs.Promises.{PaysBetween}
use Rattle.losses.specs.Losses.{brought_by, inputs_of, LosesAtMost}

-- each transaction is accepted where the one before it left the contract
abbrev pub AreAccepted : Standing → List Transaction → Type 0
AreAccepted a [] = Unit {0}
AreAccepted a (t ∷ ts) = IsOk (answer_of (walk_from a t)) × AreAccepted (standing_after a t) ts

-- transactions leave nothing in the contract
abbrev pub Close : Standing → List Transaction → Type 0
Close a ts = let b = stands_after a ts in IsSpent b.state b.contract

-- a run from the start: all of it is accepted, and a party is paid just so much of a token
abbrev pub Pays : Party → Token → ℤ → StateMaps → ContractTree → List Transaction → Type 0
Pays party token n s c ts = let a = standing s c in AreAccepted a ts × (paid_to party token (payments_of a ts) ≡ n)

-- .. and it closes the contract
abbrev pub PaysAndCloses : Party → Token → ℤ → StateMaps → ContractTree → List Transaction → Type 0
PaysAndCloses party token n s c ts = Pays party token n s c ts × Close (standing s c) ts

-- a run that closes the contract, in which a party brought just so much more of a token than it was paid
abbrev pub Loses : Party → Token → ℤ → StateMaps → ContractTree → List Transaction → Type 0
Loses party token n s c ts =
    let a = standing s c in AreAccepted a ts × Close a ts × (brought_by party token (inputs_of a ts) ≡ paid_to party token (payments_of a ts) +ℤ n)

-- ---- laws

-- no party is promised to be paid less than a run pays it
abbrev pub MostIsNotLower : Type 0
MostIsNotLower =
    (party : Party) (token : Token) (least : Option ℤ) (m n : ℤ) (s : StateMaps) (c : ContractTree) (ts : List Transaction)
    → Pays party token n s c ts → PaysBetween party token least (Some m) s c → n ≤ℤ m

-- nor more than it is paid by a run that closes
abbrev pub LeastIsNotHigher : Type 0
LeastIsNotHigher =
    (party : Party) (token : Token) (most : Option ℤ) (m n : ℤ) (s : StateMaps) (c : ContractTree) (ts : List Transaction)
    → PaysAndCloses party token n s c ts → PaysBetween party token (Some m) most s c → m ≤ℤ n

-- nor to lose less than it does in one
abbrev pub LossIsNotLower : Type 0
LossIsNotLower =
    (party : Party) (token : Token) (m n : ℤ) (s : StateMaps) (c : ContractTree) (ts : List Transaction)
    → Loses party token n s c ts → LosesAtMost party token m s c → n ≤ℤ m
