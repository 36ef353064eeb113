-- Which inputs apply where a contract waits, by what its cases offer.
use Rattle.std.specs.Prelude.{ℕ, suc, List, [], ◌∷◌, ◌++◌, Option}
use Rattle.std.specs.Result.{result_err}
use Rattle.contract.specs.declared.fault.SemFault.{SemFault}
use Rattle.contract.specs.declared.input.Input.{Input}
use Rattle.contract.specs.declared.input.Input.TheVariants as inputs
use Rattle.contract.specs.declared.interval.Interval.{Interval}
use Rattle.contract.specs.Tree.{ActionTree, deposit, choice, notify, ContractTree}
use Rattle.contract.specs.States.States.{StateMaps}
use Rattle.marlowe_run.specs.Semantics.Walk.{answer_of}
use Rattle.marlowe_run.specs.Semantics.Computed.{computed}
use Rattle.next_inputs.specs.declared.offer.Offer.{Offer}
use Rattle.next_inputs.specs.declared.offer.Offer.TheVariants as offers
use Rattle.next_lines.specs.Applicable.{Applicable, deposits, chooses, notifies, deposit_leaves, notify_leaves}

-- why a transaction with one input is refused, if it is
abbrev pub refusal : Interval → StateMaps → ContractTree → Input → Option SemFault
refusal i s c x = result_err (answer_of (computed i s c (x ∷ [])))

-- what is told of a case by what it offers
abbrev pub applicable : (Input → Option SemFault) → ℕ → ActionTree → Offer → List Applicable
applicable refused n (deposit a p t v) (offers.Deposit m) = deposits n a p t m (refused (inputs.Deposit a p t m)) ∷ []
applicable refused n (deposit a p t v) offers.Leaves128 = deposit_leaves n a p t ∷ []
applicable refused n (choice id bounds) (offers.Choice left) = chooses n id left ∷ []
applicable refused n (notify o) offers.Notify = notifies n (refused inputs.Notify) ∷ []
applicable refused n (notify o) offers.Leaves128 = notify_leaves n ∷ []
applicable refused n k f = []

-- of all cases, where so many come before them
abbrev pub applicable_from : (Input → Option SemFault) → ℕ → List (ActionTree × ContractTree) → List Offer → List Applicable
applicable_from refused n [] fs = []
applicable_from refused n (k ∷ ks) [] = []
applicable_from refused n (k ∷ ks) (f ∷ fs) = applicable refused n k.0 f ++ applicable_from refused (suc n) ks fs
