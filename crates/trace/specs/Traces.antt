-- Transactions one after another, each from where the one before it left the contract, up to the first that is refused.
use Rattle.std.specs.Prelude.{◌≡◌, ℕ, suc, ◌+◌, List, [], ◌∷◌, ◌++◌, length, Result, Ok, Err}
use Rattle.contract.specs.declared.fault.SemFault.{SemFault}
use Rattle.contract.specs.declared.transaction.Transaction.{Transaction}
use Rattle.semantics.specs.Walk.{Standing, Walk, answer_of}
use Rattle.analysis_spec.specs.Runs.{walk_from}
use Rattle.trace.specs.declared.refused.Refused.{Refused}

abbrev pub walks_then : Result Standing SemFault → (Standing → List Walk) → List Walk
walks_then (Ok b) f = f b
walks_then (Err e) f = []

-- what each does, up to the first that is refused, that one too
abbrev pub walks : Standing → List Transaction → List Walk
walks a [] = []
walks a (t ∷ ts) = walk_from a t ∷ walks_then (answer_of (walk_from a t)) (λ b. walks b ts)

abbrev pub left_then : Result Standing SemFault → ℕ → (Standing → Result Standing Refused) → Result Standing Refused
left_then (Ok b) n f = f b
left_then (Err e) n f = Err (record { index = n; fault = e })

-- where they leave the contract, or the first that is refused, where so many came before
abbrev pub left_by : ℕ → Standing → List Transaction → Result Standing Refused
left_by n a [] = Ok a
left_by n a (t ∷ ts) = left_then (answer_of (walk_from a t)) n (λ b. left_by (suc n) b ts)

-- ---- laws

-- two lists of transactions are one: what the second does, it does from where the first leaves the contract
abbrev pub TracesJoin : Type 0
TracesJoin = (n : ℕ) (a b : Standing) (ts us : List Transaction) → left_by n a ts ≡ Ok b
    → (walks a (ts ++ us) ≡ walks a ts ++ walks b us) × ((m : ℕ) → left_by m a (ts ++ us) ≡ left_by (m + length ts) b us)
