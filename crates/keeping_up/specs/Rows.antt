-- Worked runs: who keeps up in them.
use Rattle.std.specs.Prelude.{◌≡◌, ℤ, pos, List, [], ◌∷◌, Some, None}
use Rattle.contract.specs.Names.declared.party.Party.{Party}
use Rattle.contract.specs.Names.declared.choice_id.ChoiceId.{ChoiceId}
use Rattle.contract.specs.Names.declared.bound.Bound.{Bound}
use Rattle.contract.specs.Names.Equal.{ada}
use Rattle.contract.specs.declared.input.Input.TheVariants.{Deposit}
use Rattle.contract.specs.declared.transaction.Transaction.{Transaction}
use Rattle.contract.specs.Tree.{constant, true_obs, deposit, choice, notify, ContractTree, close, when, no_cases, case_then}
use Rattle.semantics.specs.Walk.{standing}
use Rattle.semantics.specs.Rows.{interval, party_a, party_b, nothing}
use Rattle.keeping_up.specs.KeepsUp.{waits_at, KeepsUp}

-- a When for a deposit of 5 by a party, with a timeout, and a contract behind that
abbrev pub asks_five : Party → ℤ → ContractTree → ContractTree
asks_five party timeout c = when (case_then (deposit party_a party ada (constant (pos 5))) close no_cases) timeout c

-- a transaction without inputs at a moment
abbrev pub comes_at : ℤ → List Transaction
comes_at n = record { interval = interval n n; inputs = [] } ∷ []

-- ---- the buyer b is to deposit until 100

abbrev pub escrow : ContractTree
escrow = asks_five party_b (pos 100) close

-- it waits for b at 99, and not at 100; never for a
abbrev pub WaitsForTheBuyer : Type 0
WaitsForTheBuyer = waits_at party_b (pos 99) (standing nothing escrow) ≡ Some (pos 100)

abbrev pub WaitsNoLonger : Type 0
WaitsNoLonger = waits_at party_b (pos 100) (standing nothing escrow) ≡ None

abbrev pub WaitsForNobodyElse : Type 0
WaitsForNobodyElse = waits_at party_a (pos 99) (standing nothing escrow) ≡ None

-- where it is closed at 100, b hasn't kept up
abbrev pub LateIsTooLate : Type 0
LateIsTooLate = KeepsUp party_b (standing nothing escrow) (comes_at (pos 100)) → ⊥

-- a has: it was never waited for
abbrev pub OthersKeepUp : Type 0
OthersKeepUp = KeepsUp party_a (standing nothing escrow) (comes_at (pos 100))

-- b has where it deposits, and where what comes is refused
abbrev pub DepositIsInTime : Type 0
DepositIsInTime = KeepsUp party_b (standing nothing escrow) (record { interval = interval (pos 99) (pos 99); inputs = Deposit party_a party_b ada (pos 5) ∷ [] } ∷ [])

abbrev pub RefusedIsNothing : Type 0
RefusedIsNothing = KeepsUp party_b (standing nothing escrow) (record { interval = interval (pos 100) (pos 100); inputs = Deposit party_a party_b ada (pos 5) ∷ [] } ∷ [])

-- ---- b is to deposit until 100, where a let its time until 50 pass

-- where all is closed at 100, b let its own time pass, though no transaction found the contract there
abbrev pub SkippedIsTooLate : Type 0
SkippedIsTooLate = KeepsUp party_b (standing nothing (asks_five party_a (pos 50) escrow)) (comes_at (pos 100)) → ⊥

-- ---- the time of b was over before it began

-- it is asked until 50 where a let its time until 100 pass
abbrev pub DeadOnArrival : Type 0
DeadOnArrival = KeepsUp party_b (standing nothing (asks_five party_a (pos 100) (asks_five party_b (pos 50) close))) (comes_at (pos 100))

-- it is asked until 100, and the start is at 100
abbrev pub OverAtTheStart : Type 0
OverAtTheStart = KeepsUp party_b (standing (record nothing { min_time = pos 100 }) escrow) (comes_at (pos 100))

-- ---- what nobody waits for

-- a notify, and a choice of b for which there is no number
abbrev pub asks_nothing : ContractTree
asks_nothing =
    let id : ChoiceId = record { name = 99 ∷ []; owner = party_b } in
    let none : Bound = record { from = pos 1; to = pos 0 } in
    when (case_then (notify true_obs) close (case_then (choice id (none ∷ [])) close no_cases)) (pos 100) close

abbrev pub NothingIsAsked : Type 0
NothingIsAsked = waits_at party_b (pos 0) (standing nothing asks_nothing) ≡ None
