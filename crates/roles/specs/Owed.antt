-- What a step owes is recognised exactly where it stands as it is made.
use Rattle.std.specs.Prelude.{◌≡◌, ◌↔◌, ℕ, List, length, take, Some, None, slice_get, IsTrue}
use Rattle.eutxo.specs.Machine.declared.datum.Datum.{Datum}
use Rattle.eutxo.specs.EutxoTypes.declared.output.Output.{Output}
use Rattle.eutxo.specs.EutxoTypes.declared.tx.Tx.{Tx}
use Rattle.eutxo.specs.EutxoTypes.Parts.{contract_in, Instance, lock_of, contract_at}
use Rattle.roles.specs.Sums.{sums_of}
use Rattle.roles.specs.Steps.{continuation, goes_on_in, first_unpaid}

-- a contract of a script that stands at a datum
abbrev pub standing_at : List ℕ → Datum → Instance
standing_at script d = record { script = script; datum = d }

-- a transaction makes it in the output at a place, and that output holds just the sums of its accounts
abbrev pub IsMadeWithSums : Tx → ℕ → Instance → Type 0
IsMadeWithSums tx i c = (contract_at tx i ≡ Some c) × (o : Output) × (slice_get tx.outputs i ≡ Some o) × (o.amount ≡ sums_of (c.datum).state)

-- 14: a contract goes on from a datum in the output at a place exactly where it is made so there
abbrev pub GoesOnWhereMade : Type 0
GoesOnWhereMade = (tx : Tx) (i : ℕ) (script : List ℕ) (d : Datum) → IsTrue (goes_on_in tx i script d) ↔ IsMadeWithSums tx i (standing_at script d)

-- and where the output holds the datum's digest, as rule 19 wants, it is the continuation
abbrev pub MadeAreContinuations : Type 0
MadeAreContinuations = (o : Output) (c : Instance) → contract_in o.lock ≡ Some (lock_of c) → o.amount ≡ sums_of (c.datum).state → o ≡ continuation c.script c.datum

-- 15: no output that is due is missing exactly where outputs begin with those that are due
abbrev pub PaidInDueOutputs : Type 0
PaidInDueOutputs = (i : ℕ) (due outputs : List Output) → (first_unpaid i due outputs ≡ None) ↔ (take (length due) outputs ≡ due)
