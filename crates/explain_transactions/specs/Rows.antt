-- Worked rows of what stops a transaction, computed on the definitions.
use Rattle.std.specs.Prelude.{◌≡◌, pos, List, [], ◌∷◌}
use Rattle.contract.specs.Names.Equal.{ada}
use Rattle.contract.specs.declared.input.Input.TheVariants.{Notify}
use Rattle.contract.specs.Tree.{ContractTree, close, when, let_be, constant, no_cases}
use Rattle.semantics.specs.Walk.{standing}
use Rattle.semantics.specs.Reduction.{account_of}
use Rattle.semantics.specs.Rows.{interval, nothing, a_has_three, party_a, name_x}
use Rattle.next_inputs.specs.Rows.{greatest, asks_greatest, deposits}
use Rattle.trace.specs.Rows.{waits_for_notify, third}
use Rattle.contract.specs.Tree.{true_obs}
use Rattle.analysis_spec.specs.declared.path.PathStep.TheVariants.{Then, Case, Action}
use Rattle.explain_transactions.specs.Explained.{IsUnmatchedAt, IsAmbiguousAt, DepositedLeaves}

-- a notify of a true observation, then one of a false one
abbrev pub true_then_false : ContractTree
true_then_false = waits_for_notify true_obs third

-- of two notifies the second is the first that no case takes; the contract waits behind the first case then
abbrev pub SecondIsUnmatched : Type 0
SecondIsUnmatched = IsUnmatchedAt (interval (pos 0) (pos 10)) nothing true_then_false (Notify ∷ Notify ∷ []) 1 (Case 0 ∷ []) (standing nothing third)

-- behind a Let, a When whose timeout is 5
abbrev pub binds_and_waits : ContractTree
binds_and_waits = let_be name_x (constant (pos 1)) (when no_cases (pos 5) close)

-- from 0 to 10 its timeout lies inside the interval
abbrev pub TimeoutIsInside : Type 0
TimeoutIsInside = IsAmbiguousAt (interval (pos 0) (pos 10)) nothing binds_and_waits [] (Then ∷ []) (pos 5)

-- the greatest number of 128 bits is deposited into an account that has 3: the sum leaves, and no number before it
abbrev pub SumIsTold : Type 0
SumIsTold = DepositedLeaves (interval (pos 0) (pos 10)) a_has_three asks_greatest (deposits greatest ∷ []) (Action 0 ∷ []) (account_of party_a ada)
