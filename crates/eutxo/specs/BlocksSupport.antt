-- No reader needs this file: it serves the code of rules 12 to 16, which walks over what is spent.
use Rattle.std.specs.Prelude.{ℕ, ◌+◌, Bool, not, ◌&&◌, List, [], ◌∷◌, ◌++◌, drop, length, Option, Some, None}
use Rattle.std.specs.List.{list_any, slice_get}
use Rattle.eutxo_types.specs.declared.fault.TxFault.{TxFault}
use Rattle.eutxo_types.specs.declared.output.Output.{Output}
use Rattle.eutxo_types.specs.declared.spend.Spend.{Spend}
use Rattle.eutxo_types.specs.declared.tx.Tx.{Tx}
use Rattle.eutxo_types.specs.Machine.declared.datum.Datum.{Datum}
use Rattle.eutxo_types.specs.Parts.{inputs_of, is_contract, ContractLock, contract_in}
use Rattle.eutxo.specs.declared.block_rules.Walked.{Walked}
use Rattle.eutxo.specs.declared.validator.StepAnswer.{StepAnswer}
use Rattle.eutxo.specs.Asked.{Judges}
use Rattle.eutxo.specs.Blocks.{Block, blocks, size, answer_to, continues, fault_in, lower, is_place}
use Rattle.eutxo.specs.Faults.{first_index}
use Rattle.eutxo.specs.Rules.{Step, steps_of}

-- of two faults the one of the lower number, of equal ones the first
abbrev pub lower_of : Option TxFault → Option TxFault → Option TxFault
lower_of None g = g
lower_of (Some f) g = lower f g

-- the lowest place of a contract lock that isn't among these
abbrev pub stray_index : List (Option ℕ) → List Output → Option ℕ
stray_index places os = first_index (λ i o. is_contract o.lock && not (list_any (is_place i) places)) 0 os

-- ---- the walk

-- with one block more, of which a script answers this
abbrev pub with_block : Walked → StepAnswer → Walked
with_block w answer = record { from = w.from + size answer; lowest = lower_of w.lowest (fault_in answer); places = w.places ++ continues w.from answer ∷ [] }

-- the step of a contract that is spent, with a datum
abbrev pub step_with : Option ContractLock → Spend → Option Datum → Option Step
step_with None x d = None
step_with (Some c) x None = None
step_with (Some c) x (Some d) = Some (record { reference = x.reference; script = c.script; datum = d; inputs = inputs_of x.redeemer })

-- after as many steps as there are places, the step of what is spent here
abbrev pub step_here : Tx → Walked → Spend × Output → Option Step
step_here tx w x = step_with (contract_in x.1.lock) x.0 (slice_get tx.datums (length w.places))

abbrev pub and_step : {V : Type 0} → Judges V → (List ℕ → Option V) → Tx → List (Spend × Output) → Walked → Option Step → Walked
and_step j named tx spent w None = w
and_step j named tx spent w (Some s) = with_block w (answer_to j named tx spent w.from s)

-- .. over what is spent here
abbrev pub walked_over : {V : Type 0} → Judges V → (List ℕ → Option V) → Tx → List (Spend × Output) → Walked → Spend × Output → Walked
walked_over j named tx spent w x = and_step j named tx spent w (step_here tx w x)

-- the blocks that are left, of what is spent from a place on
abbrev pub blocks_left : {V : Type 0} → Judges V → (List ℕ → Option V) → Tx → List (Spend × Output) → Walked → ℕ → List Block
blocks_left j named tx spent w i = blocks j named tx spent (steps_of (drop i spent) (drop (length w.places) tx.datums)) w.from
