-- The rules of a step: each contract that is spent makes a block of outputs, one block behind another from place 0.
use Rattle.std.specs.Prelude.{ℕ, ◌+◌, ◌==◌, nat_lt, Bool, true, false, not, ◌&&◌, if◌then◌else◌, List, [], ◌∷◌, map, Option, Some, None, option_map}
use Rattle.std.specs.List.{list_any, filter_map}
use Rattle.eutxo_types.specs.declared.fault.TxFault.{TxFault}
use Rattle.eutxo_types.specs.declared.fault.TxFault.TheVariants.{Semantics, StrayContract}
use Rattle.eutxo_types.specs.declared.output.Output.{Output}
use Rattle.eutxo_types.specs.declared.output_ref.OutputRef.{OutputRef}
use Rattle.eutxo_types.specs.declared.spend.Spend.{Spend}
use Rattle.eutxo_types.specs.declared.tx.Tx.{Tx}
use Rattle.eutxo_types.specs.Numbers.{number}
use Rattle.eutxo_types.specs.Parts.{same_ref, is_contract}
use Rattle.eutxo.specs.declared.validator.StepAnswer.{StepAnswer}
use Rattle.eutxo.specs.declared.validator.StepAnswer.TheVariants.{Refused, Takes}
use Rattle.eutxo.specs.Asked.{Stepping, question, Judges, refusal_of}
use Rattle.eutxo.specs.Faults.{or_else, first_index}
use Rattle.eutxo.specs.Rules.{Step, steps_of, wrong_start}

-- ---- blocks

-- the block of a contract that is spent: the place from which it stands, the reference that the input names, and what the script answers
pub record Block : Type 0 where
  pub from : ℕ
  pub reference : OutputRef
  pub answer : StepAnswer

-- how many outputs it has: the one in which the contract goes on, and the payments. So a block in which a contract goes on is never
-- empty, whatever the script
abbrev pub size : StepAnswer → ℕ
size (Refused fault) = 0
size (Takes fault goes_on payments) = (if goes_on then 1 else 0) + payments

-- a script that isn't there makes nothing
abbrev pub answer_by : {V : Type 0} → Judges V → Option V → Stepping → StepAnswer
answer_by j None s = Takes None false 0
answer_by j (Some v) s = j.step v s

abbrev pub step_asked : Tx → List (Spend × Output) → ℕ → Step → Stepping
step_asked tx spent i s = question s.script s.datum s.inputs i tx spent

-- what the script of a step answers, whose block stands from a place
abbrev pub answer_to : {V : Type 0} → Judges V → (List ℕ → Option V) → Tx → List (Spend × Output) → ℕ → Step → StepAnswer
answer_to j named tx spent i s = answer_by j (named s.script) (step_asked tx spent i s)

abbrev pub and_blocks : ℕ → OutputRef → StepAnswer → (ℕ → List Block) → List Block
and_blocks i r answer later = record { from = i; reference = r; answer = answer } ∷ later (i + size answer)

-- the blocks of these steps, from place i on
abbrev pub blocks : {V : Type 0} → Judges V → (List ℕ → Option V) → Tx → List (Spend × Output) → List Step → ℕ → List Block
blocks j named tx spent [] i = []
blocks j named tx spent (s ∷ ss) i = and_blocks i s.reference (answer_to j named tx spent i s) (blocks j named tx spent ss)

-- those of a transaction, from place 0 on: of all contracts that it spends
abbrev pub blocks_of : {V : Type 0} → Judges V → (List ℕ → Option V) → Tx → List (Spend × Output) → List Block
blocks_of j named tx spent = blocks j named tx spent (steps_of spent tx.datums) 0

-- .. where nothing is missing of what it spends
abbrev pub blocks_on : {V : Type 0} → Judges V → (List ℕ → Option V) → Tx → Option (List (Spend × Output)) → List Block
blocks_on j named tx None = []
blocks_on j named tx (Some spent) = blocks_of j named tx spent

-- the place of the output in which its contract goes on: the first of the block. A contract that is over has none, whatever stands there
abbrev pub continues : ℕ → StepAnswer → Option ℕ
continues i (Refused fault) = None
continues i (Takes fault true payments) = Some i
continues i (Takes fault false payments) = None

-- of each contract, in order
abbrev pub places_in : List Block → List (Option ℕ)
places_in bs = map (λ b. continues b.from b.answer) bs

-- of the contract that is spent at a reference
abbrev pub goes_on_at : List Block → OutputRef → Option ℕ
goes_on_at [] r = None
goes_on_at (b ∷ bs) r = if same_ref b.reference r then continues b.from b.answer else goes_on_at bs r

-- where its block stands
abbrev pub stands_from : List Block → OutputRef → Option ℕ
stands_from [] r = None
stands_from (b ∷ bs) r = if same_ref b.reference r then Some b.from else stands_from bs r

-- ---- 12 to 15, of each contract that is spent: the lowest number answers, of equal ones the first

abbrev pub fault_in : StepAnswer → Option TxFault
fault_in (Refused fault) = Some (Semantics fault)
fault_in (Takes fault goes_on payments) = option_map refusal_of fault

abbrev pub lower : TxFault → Option TxFault → Option TxFault
lower f None = Some f
lower f (Some g) = if nat_lt (number g) (number f) then Some g else Some f

abbrev pub lowest : List TxFault → Option TxFault
lowest [] = None
lowest (f ∷ fs) = lower f (lowest fs)

abbrev pub faults_in : List Block → List TxFault
faults_in bs = filter_map (λ b. fault_in b.answer) bs

abbrev pub lowest_fault : List Block → Option TxFault
lowest_fault bs = lowest (faults_in bs)

-- ---- 16: the output at this place has a contract lock, and no contract goes on in it

abbrev pub is_place : ℕ → Option ℕ → Bool
is_place i None = false
is_place i (Some k) = i == k

abbrev pub is_continuing : List Block → ℕ → Bool
is_continuing bs i = list_any (is_place i) (places_in bs)

abbrev pub stray_contract : List Block → List Output → Option TxFault
stray_contract bs os = option_map StrayContract (first_index (λ i o. is_contract o.lock && not (is_continuing bs i)) 0 os)

-- ---- 12 to 16 where contracts are spent, else 17

abbrev pub block_fault : List Block → List Output → Option TxFault
block_fault bs os = or_else (lowest_fault bs) (stray_contract bs os)

abbrev pub step_fault : {V : Type 0} → Judges V → (List ℕ → Option V) → Tx → List (Spend × Output) → List Step → Option TxFault
step_fault j named tx spent [] = wrong_start j named tx
step_fault j named tx spent (s ∷ ss) = block_fault (blocks j named tx spent (s ∷ ss) 0) tx.outputs

-- which are judged only where 19 doesn't stand
abbrev pub step_fault_unless : {V : Type 0} → Option TxFault → Judges V → (List ℕ → Option V) → Tx → List (Spend × Output) → Option TxFault
step_fault_unless None j named tx spent = step_fault j named tx spent (steps_of spent tx.datums)
step_fault_unless (Some fault) j named tx spent = None
