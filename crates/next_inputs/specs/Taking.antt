-- Which case one input takes (Marlowe specification version 3, "Apply cases"), and at which a number leaves 128 bits.
use Rattle.std.specs.Prelude.{ℕ, suc, ℤ, pos, List, [], ◌∷◌, if◌then◌else◌, Option, Some, None, option_map}
use Rattle.contract.specs.declared.input.Input.{Input}
use Rattle.contract.specs.declared.input.Input.TheVariants.{Deposit, Choice, Notify}
use Rattle.contract.specs.declared.interval.Interval.{Interval}
use Rattle.contract.specs.States.States.{StateMaps}
use Rattle.contract.specs.Tree.{ActionTree, ContractTree}
use Rattle.semantics.specs.Evaluation.Numbers.{all_fit}
use Rattle.semantics.specs.Applying.{matches, tried}

-- the case that the input takes, by its index: the first that matches, where no number that is visited up to there
-- leaves 128 bits
abbrev pub taken_case : Interval → StateMaps → Input → List (ActionTree × ContractTree) → Option ℕ
taken_case i s x [] = None
taken_case i s x (k ∷ ks) = if all_fit (tried i s x k.0) then (if matches i s x k.0 then Some 0 else option_map suc (taken_case i s x ks)) else None

-- the case, up to the one that the input takes, in which a number leaves 128 bits
abbrev pub leaving_case : Interval → StateMaps → Input → List (ActionTree × ContractTree) → Option ℕ
leaving_case i s x [] = None
leaving_case i s x (k ∷ ks) = if all_fit (tried i s x k.0) then (if matches i s x k.0 then None else option_map suc (leaving_case i s x ks)) else Some 0

-- the number of an input: what is deposited or chosen
abbrev pub number_of : Input → ℤ
number_of (Deposit a p t n) = n
number_of (Choice id n) = n
number_of Notify = pos 0
