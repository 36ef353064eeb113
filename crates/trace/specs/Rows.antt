-- Worked traces, computed on the definitions.
use Rattle.std.specs.Prelude.{◌≡◌, pos, [], ◌∷◌, Ok, Err}
use Rattle.contract.specs.Names.declared.payee.Payee.TheVariants.{Party as ToParty}
use Rattle.contract.specs.Names.Equal.{ada}
use Rattle.contract.specs.declared.fault.SemFault.TheVariants.{NoMatch}
use Rattle.contract.specs.declared.input.Input.TheVariants.{Notify}
use Rattle.contract.specs.declared.transaction.Transaction.{Transaction}
use Rattle.contract.specs.declared.warning.Warning.TheVariants.{PartialPay}
use Rattle.contract.specs.Tree.{ObservationTree, ContractTree, notify, when, close, let_be, constant, no_cases, case_then, true_obs, false_obs}
use Rattle.semantics.specs.Rows.{interval, nothing, party_a, party_b, name_x, pays_b}
use Rattle.semantics.specs.Walk.{standing}
use Rattle.analysis_spec.specs.declared.path.PathStep.TheVariants.{Then, Case}
use Rattle.analysis_spec.specs.Marks.{leads_after, settling}
use Rattle.trace.specs.Traces.{left_by}
use Rattle.trace.specs.Warned.{warned_at}

-- a When of one case, a notify of an observation, with timeout 100
abbrev pub waits_for_notify : ObservationTree → ContractTree → ContractTree
waits_for_notify o c = when (case_then (notify o) c no_cases) (pos 100) close

-- a notify of a false observation, behind two of true ones
abbrev pub third : ContractTree
third = waits_for_notify false_obs close

abbrev pub first : ContractTree
first = waits_for_notify true_obs (waits_for_notify true_obs third)

abbrev pub notifies : Transaction
notifies = record { interval = interval (pos 0) (pos 10); inputs = Notify ∷ [] }

-- two notifies, one after another, come to the third When
abbrev pub TwoComeToTheThird : Type 0
TwoComeToTheThird = left_by 0 (standing nothing first) (notifies ∷ notifies ∷ []) ≡ Ok (standing nothing third)

-- by the first case of each When
abbrev pub TwoTakeTheFirstCases : Type 0
TwoTakeTheFirstCases = leads_after [] (standing nothing first) (notifies ∷ notifies ∷ []) ≡ Case 0 ∷ Case 0 ∷ []

-- a third is refused, by its index
abbrev pub ThirdIsRefused : Type 0
ThirdIsRefused = left_by 0 (standing nothing first) (notifies ∷ notifies ∷ notifies ∷ notifies ∷ []) ≡ Err (record { index = 2; fault = NoMatch })

-- a Pay of 5 from an empty account, behind a Let, warns at its own place
abbrev pub binds_and_pays : ContractTree
binds_and_pays = let_be name_x (constant (pos 1)) (pays_b (pos 5))

abbrev pub PayWarnsBehindTheLet : Type 0
PayWarnsBehindTheLet =
    warned_at (settling [] (interval (pos 0) (pos 10)) nothing binds_and_pays)
    ≡ record { place = Then ∷ []; warning = PartialPay party_a (ToParty party_b) ada (pos 0) (pos 5) } ∷ []
