-- Worked runs that reach a bound, and such as don't.
use Rattle.std.specs.Prelude.{◌≡◌, pos, [], ◌∷◌}
use Rattle.contract.specs.Names.declared.payee.Payee.TheVariants.{Account as ToAccount}
use Rattle.contract.specs.Names.Equal.{ada}
use Rattle.contract.specs.declared.payment.Payment.{Payment}
use Rattle.semantics.specs.Rows.{party_a, party_b, nothing}
use Rattle.analysis_spec.specs.Runs.{paid_to}
use Rattle.losses.specs.Rows.{takes_five, gives}
use Rattle.reached_bounds.specs.Reached.{Pays, PaysAndCloses, Loses}

-- b deposits 5 into the account of a, who is paid them by the Close
abbrev pub FiveArePaid : Type 0
FiveArePaid = PaysAndCloses party_a ada (pos 5) nothing (takes_five party_a) (gives party_a (pos 5))

-- so b loses 5, and not 4
abbrev pub FiveAreLost : Type 0
FiveAreLost = Loses party_b ada (pos 5) nothing (takes_five party_a) (gives party_a (pos 5))

abbrev pub FourAreNotLost : Type 0
FourAreNotLost = Loses party_b ada (pos 4) nothing (takes_five party_a) (gives party_a (pos 5)) → ⊥

-- a deposit of 4 is refused, so that is no run of accepted transactions
abbrev pub RefusedIsNoRun : Type 0
RefusedIsNoRun = Pays party_a ada (pos 0) nothing (takes_five party_a) (gives party_a (pos 4)) → ⊥

-- a run that leaves 5 in the contract pays nothing yet, and b hasn't lost them
abbrev pub NothingIsPaidYet : Type 0
NothingIsPaidYet = Pays party_a ada (pos 0) nothing (takes_five party_a) []

abbrev pub NothingIsLostYet : Type 0
NothingIsLostYet = Loses party_b ada (pos 0) nothing (takes_five party_a) [] → ⊥

-- a payment of 2 into the account of b stays in the contract: b isn't paid it
abbrev pub MovedIsNotPaid : Type 0
MovedIsNotPaid = paid_to party_b ada ((let p : Payment = record { from = party_a; to = ToAccount party_b; token = ada; amount = pos 2 } in p) ∷ []) ≡ pos 0
