-- How inputs and change are laid out.
use Rattle.std.specs.Prelude.{ℕ, if◌then◌else◌, List, [], ◌∷◌}
use Rattle.std.specs.FinMap.{entries}
use Rattle.contract.specs.declared.input.Input.{Input}
use Rattle.ledger.specs.Bundle.Bundles.{Amounts, minus}
use Rattle.ledger.specs.EutxoTypes.declared.lock.Lock.TheVariants.{Key}
use Rattle.ledger.specs.EutxoTypes.declared.output.Output.{Output}
use Rattle.ledger.specs.EutxoTypes.declared.redeemer.Redeemer.{Redeemer}
use Rattle.ledger.specs.EutxoTypes.declared.redeemer.Redeemer.TheVariants as with
use Rattle.ledger.specs.EutxoTypes.declared.spend.Spend.{Spend}
use Rattle.ledger.specs.Eutxo.Faults.{is_empty}
use Rattle.ledger.specs.declared.look.Unspent.{Unspent}
use Rattle.builder_spec.specs.Holding.{sums, amount_in}

-- an input that spends an output
abbrev pub spend_with : Redeemer → Unspent → Spend
spend_with redeemer u = record { reference = u.reference; redeemer = redeemer }

abbrev pub by_key : Unspent → Spend
by_key = spend_with with.None

abbrev pub by_claim : Unspent → Spend
by_claim = spend_with with.Claim

abbrev pub by_step : List Input → Unspent → Spend
by_step xs = spend_with (with.Step xs)

-- an output to an address, where there is anything for it
abbrev pub paid_to : List ℕ → Amounts → List Output
paid_to address m = if is_empty (entries m) then [] else record { lock = Key address; amount = m } ∷ []

-- what is spent and not made: the change
abbrev pub rest : List Unspent → List Output → Amounts
rest spent made = minus (sums amount_in spent) (sums (λ o. o.amount) made)
