-- What a transaction and its resolution decide: the fault of the first rule that refuses.
use Rattle.std.specs.Prelude.{ℕ, List, [], ◌∷◌, Option, None, Some}
use Rattle.eutxo_types.specs.declared.fault.TxFault.{TxFault}
use Rattle.eutxo_types.specs.declared.output.Output.{Output}
use Rattle.eutxo_types.specs.declared.spend.Spend.{Spend}
use Rattle.eutxo_types.specs.declared.tx.Tx.{Tx}
use Rattle.eutxo_types.specs.declared.verdict.Verdict.{Verdict}
use Rattle.eutxo_types.specs.declared.verdict.Verdict.TheVariants.{Accepted, Refused}
use Rattle.eutxo.specs.Faults.{first_of, or_else}
use Rattle.eutxo.specs.Found.{script_at, whole}
use Rattle.eutxo.specs.declared.judged.Judged.{Judged}
use Rattle.eutxo.specs.declared.resolved.Resolved.{Resolved}
use Rattle.eutxo.specs.Asked.{Judges}
use Rattle.eutxo.specs.Blocks.{step_fault, step_fault_unless, blocks, blocks_on, places_in}
use Rattle.eutxo.specs.Rules.{no_inputs, too_many, repeated_input, not_signed, too_many_contracts, wrong_redeemer, role_missing, not_preserved, wrong_datum, steps_of}

-- the rules of the transaction alone, in their order: 1 to 3
abbrev pub tx_fault : Tx → Option TxFault
tx_fault tx = first_of (no_inputs tx ∷ too_many tx ∷ repeated_input tx ∷ [])

-- those of the transaction and what it spends: 8 to 19, but 12 to 17 only where 19 doesn't stand
abbrev pub spent_rules : {V : Type 0} → Judges V → (List ℕ → Option V) → Tx → List (Spend × Output) → List (Option TxFault)
spent_rules j named tx spent =
    not_signed tx.signers spent
    ∷ too_many_contracts spent
    ∷ wrong_redeemer spent
    ∷ role_missing j spent
    ∷ step_fault_unless (wrong_datum tx spent) j named tx spent
    ∷ not_preserved spent tx.outputs
    ∷ wrong_datum tx spent
    ∷ []

abbrev pub spent_fault : {V : Type 0} → Judges V → (List ℕ → Option V) → Tx → List (Spend × Output) → Option TxFault
spent_fault j named tx spent = first_of (spent_rules j named tx spent)

-- which are judged only where nothing is missing
abbrev pub whole_fault : {V : Type 0} → Judges V → (List ℕ → Option V) → Tx → Option (List (Spend × Output)) → Option TxFault
whole_fault j named tx None = None
whole_fault j named tx (Some spent) = spent_fault j named tx spent

-- THE LOCAL VERDICT: no fault, or that of the first rule that refuses, of 1 to 3 and, where nothing is missing, 8 to 19
abbrev pub local : {V : Type 0} → Judges V → Tx → Resolved V → Option TxFault
local j tx found = or_else (tx_fault tx) (whole_fault j (script_at found.scripts) tx (whole tx found))

-- ---- where contracts go on

-- the places of the outputs in which the contracts that are spent go on, in their order, where nothing is missing
abbrev pub places_of : {V : Type 0} → Judges V → Tx → Resolved V → List (Option ℕ)
places_of j tx found = places_in (blocks_on j (script_at found.scripts) tx (whole tx found))

-- what is refused goes on nowhere
abbrev pub unless_refused : Option TxFault → List (Option ℕ) → List (Option ℕ)
unless_refused None places = places
unless_refused (Some fault) places = []

abbrev pub judged_as : Option TxFault → List (Option ℕ) → Judged
judged_as fault places = record { fault = fault; places = unless_refused fault places }

-- the judgement by 12 to 17 alone
abbrev pub rules_12_to_17 : {V : Type 0} → Judges V → (List ℕ → Option V) → Tx → List (Spend × Output) → Judged
rules_12_to_17 j named tx spent =
    judged_as (step_fault j named tx spent (steps_of spent tx.datums)) (places_in (blocks j named tx spent (steps_of spent tx.datums) 0))

-- by 12 to 19, but 12 to 17 only where 19 doesn't stand
abbrev pub rules_12_to_19 : {V : Type 0} → Judges V → (List ℕ → Option V) → Tx → List (Spend × Output) → Judged
rules_12_to_19 j named tx spent =
    judged_as
    (first_of (step_fault_unless (wrong_datum tx spent) j named tx spent ∷ not_preserved spent tx.outputs ∷ wrong_datum tx spent ∷ []))
    (places_in (blocks_on j named tx (Some spent)))

-- and by 8 to 19
abbrev pub rules_8_to_19 : {V : Type 0} → Judges V → (List ℕ → Option V) → Tx → List (Spend × Output) → Judged
rules_8_to_19 j named tx spent = judged_as (spent_fault j named tx spent) (places_in (blocks_on j named tx (Some spent)))

-- .. where nothing is missing in a resolution
abbrev pub rules_8_to_19_found : {V : Type 0} → Judges V → Tx → Resolved V → Judged
rules_8_to_19_found j tx found = judged_as (whole_fault j (script_at found.scripts) tx (whole tx found)) (places_of j tx found)

-- THE LOCAL JUDGEMENT: the local verdict's fault, and where there is none, the places in which contracts go on
abbrev pub judged : {V : Type 0} → Judges V → Tx → Resolved V → Judged
judged j tx found = judged_as (local j tx found) (places_of j tx found)

abbrev pub verdict_of : Option TxFault → Verdict
verdict_of None = Accepted
verdict_of (Some f) = Refused f
