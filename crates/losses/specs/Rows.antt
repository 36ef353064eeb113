-- Worked losses: what is counted, and runs that break a promise.
use Rattle.std.specs.Prelude.{◌≡◌, ℤ, pos, neg_ℤ, List, [], ◌∷◌}
use Rattle.contract.specs.Names.declared.party.Party.{Party}
use Rattle.contract.specs.Names.Equal.{ada}
use Rattle.contract.specs.declared.input.Input.TheVariants.{Deposit}
use Rattle.contract.specs.declared.transaction.Transaction.{Transaction}
use Rattle.contract.specs.Tree.{constant, deposit, ContractTree, close, when, no_cases, case_then}
use Rattle.semantics.specs.Walk.{standing}
use Rattle.semantics.specs.Rows.{party_a, party_b, nothing}
use Rattle.analysis_spec.specs.Runs.{payments_of, paid_to}
use Rattle.analysis_spec.specs.Rows.{early}
use Rattle.losses.specs.Losses.{brought_by, inputs_of, LosesAtMost}

-- a When for a deposit of 5 by the role b, into the account of a party, and Close behind it
abbrev pub takes_five : Party → ContractTree
takes_five owner = when (case_then (deposit owner party_b ada (constant (pos 5))) close no_cases) (pos 100) close

-- a deposit of so much by the role b, in a transaction
abbrev pub gives : Party → ℤ → List Transaction
gives owner n = early (Deposit owner party_b ada n ∷ []) ∷ []

-- 5 are brought
abbrev pub FiveAreBrought : Type 0
FiveAreBrought = brought_by party_b ada (inputs_of (standing nothing (takes_five party_a)) (gives party_a (pos 5))) ≡ pos 5

-- and b is paid nothing, as the account is of a
abbrev pub FiveAreLost : Type 0
FiveAreLost = paid_to party_b ada (payments_of (standing nothing (takes_five party_a)) (gives party_a (pos 5))) ≡ pos 0

-- so b may lose more than 4
abbrev pub FourAreTooFew : Type 0
FourAreTooFew = LosesAtMost party_b ada (pos 4) nothing (takes_five party_a) → ⊥

-- a deposit of 4 is refused, and brings nothing
abbrev pub RefusedBringsNothing : Type 0
RefusedBringsNothing = inputs_of (standing nothing (takes_five party_a)) (gives party_a (pos 4)) ≡ []

-- nor does one below 0, though it is taken
abbrev pub BelowZeroBringsNothing : Type 0
BelowZeroBringsNothing = brought_by party_b ada (Deposit party_a party_b ada (neg_ℤ (pos 5)) ∷ []) ≡ pos 0

-- one of another token, and one by another party
abbrev pub OtherTokensBringNothing : Type 0
OtherTokensBringNothing = brought_by party_b (record { symbol = 1 ∷ []; name = [] }) (Deposit party_a party_b ada (pos 5) ∷ []) ≡ pos 0

abbrev pub OthersBringNothing : Type 0
OthersBringNothing = brought_by party_a ada (Deposit party_a party_b ada (pos 5) ∷ []) ≡ pos 0

-- what b deposits into its own account comes back by the Close
abbrev pub OwnMoneyComesBack : Type 0
OwnMoneyComesBack = paid_to party_b ada (payments_of (standing nothing (takes_five party_b)) (gives party_b (pos 5))) ≡ pos 5
