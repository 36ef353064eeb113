-- A transaction that spends one contract is judged as if there were no blocks: the contract goes on in output 0, and its payments follow.
use Rattle.std.specs.Prelude.{◌≡◌, ℕ, ◌+◌, nat_lt, Bool, true, false, List, [], ◌∷◌, count_by, Option, Some, None}
use Rattle.eutxo_types.specs.declared.fault.TxFault.{TxFault}
use Rattle.eutxo_types.specs.declared.fault.TxFault.TheVariants.{Semantics, StrayContract}
use Rattle.eutxo_types.specs.declared.output.Output.{Output}
use Rattle.eutxo_types.specs.declared.spend.Spend.{Spend}
use Rattle.eutxo_types.specs.declared.tx.Tx.{Tx}
use Rattle.eutxo_types.specs.Parts.{is_contract, outputs_from}
use Rattle.eutxo.specs.declared.validator.StepAnswer.{StepAnswer}
use Rattle.eutxo.specs.declared.validator.StepAnswer.TheVariants.{Refused, Takes}
use Rattle.eutxo.specs.Asked.{Stepping, Judges, refusal_of}
use Rattle.eutxo.specs.Blocks.{step_asked}
use Rattle.eutxo.specs.Faults.{first_of, fault_at}
use Rattle.eutxo.specs.Local.{spent_fault}
use Rattle.eutxo.specs.Rules.{not_signed, wrong_redeemer, role_missing, wrong_datum, Step, steps_of, wrong_start, not_preserved}

-- an output from a place on has a contract lock
abbrev pub stray_after : ℕ → List Output → Option TxFault
stray_after i os = fault_at (λ k. StrayContract (i + k)) (λ o. is_contract o.lock) (outputs_from i os)

-- 12 to 15 are the script's; 16: the contract goes on in output 0, or is over, and the output at this place has a contract lock
abbrev pub after_answer : List Output → StepAnswer → Option TxFault
after_answer os (Refused fault) = Some (Semantics fault)
after_answer os (Takes (Some fault) goes_on payments) = Some (refusal_of fault)
after_answer os (Takes None true payments) = stray_after 1 os
after_answer os (Takes None false payments) = stray_after 0 os

abbrev pub script_fault : {V : Type 0} → Judges V → Option V → Stepping → Option TxFault
script_fault j None s = None
script_fault j (Some v) s = after_answer s.tx.outputs (j.step v s)

-- 12 to 16 of the one contract that is spent; 17 where none is
abbrev pub lone_step_fault : {V : Type 0} → Judges V → (List ℕ → Option V) → Tx → List (Spend × Output) → List Step → Option TxFault
lone_step_fault j named tx spent [] = wrong_start j named tx
lone_step_fault j named tx spent (s ∷ ss) = script_fault j (named s.script) (step_asked tx spent 0 s)

abbrev pub lone_fault_unless : {V : Type 0} → Option TxFault → Judges V → (List ℕ → Option V) → Tx → List (Spend × Output) → Option TxFault
lone_fault_unless None j named tx spent = lone_step_fault j named tx spent (steps_of spent tx.datums)
lone_fault_unless (Some fault) j named tx spent = None

-- rules 8 to 19, but 9
abbrev pub lone_fault : {V : Type 0} → Judges V → (List ℕ → Option V) → Tx → List (Spend × Output) → Option TxFault
lone_fault j named tx spent =
    first_of
    (not_signed tx.signers spent
    ∷ wrong_redeemer spent
    ∷ role_missing j spent
    ∷ lone_fault_unless (wrong_datum tx spent) j named tx spent
    ∷ not_preserved spent tx.outputs
    ∷ wrong_datum tx spent
    ∷ [])

-- under the script that each step names, there is one: nothing is missing
abbrev pub AreNamed : {V : Type 0} → (List ℕ → Option V) → List Step → Type 0
AreNamed {V} named [] = Unit {0}
AreNamed {V} named (s ∷ ss) = ((v : V) × (named s.script ≡ Some v)) × AreNamed named ss

-- ONE CONTRACT IS JUDGED AS BEFORE: where at most one is spent, the rules are these
abbrev pub OneIsJudgedAlone : {V : Type 0} → Judges V → Type 0
OneIsJudgedAlone {V} j =
    (named : List ℕ → Option V) (tx : Tx) (spent : List (Spend × Output)) → AreNamed named (steps_of spent tx.datums) →
    nat_lt 1 (count_by (λ x. is_contract x.1.lock) spent) ≡ false → spent_fault j named tx spent ≡ lone_fault j named tx spent
