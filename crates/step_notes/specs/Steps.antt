-- What is told of an accepted step: lines behind a head, or the rest of an object that a head begins.
use Rattle.std.specs.Prelude.{ℕ, ℤ, true, List, [], ◌++◌, if◌then◌else◌, Result, Ok, Err}
use Rattle.std.specs.Int.{int_max}
use Rattle.contract.specs.declared.fault.SemFault.{SemFault}
use Rattle.contract.specs.declared.input.Input.{Input}
use Rattle.contract.specs.declared.interval.Interval.{Interval}
use Rattle.contract.specs.declared.payment.Payment.{Payment}
use Rattle.contract.specs.declared.warning.Warning.{Warning}
use Rattle.contract.specs.Tree.{ContractTree}
use Rattle.contract.specs.States.States.{StateMaps}
use Rattle.machine.specs.Semantics.Walk.{Standing, answer_of}
use Rattle.machine.specs.Semantics.Computed.{computed}
use Rattle.machine.specs.Table.Along.{has_cont}
use Rattle.machine.specs.Table.Flat.{Flat, cont_tree}
use Rattle.machine.specs.declared.datum.Datum.{Datum}
use Rattle.step_notes.specs.declared.spelling.Spelling.{Spelling}
use Rattle.step_notes.specs.declared.spelling.Spelling.TheVariants.{Lines, Objects}
use Rattle.step_notes.specs.StepLines.{headed, outcome_lines}
use Rattle.step_notes.specs.StepObjects.{outcome_members}

-- the tick alone, or the minimum time where that is later
abbrev pub moment : ℤ → StateMaps → Interval
moment tick s = record { from = int_max tick s.min_time; to = int_max tick s.min_time }

abbrev pub outcome_text : Spelling → List ℕ → Interval → List Payment → List Warning → StateMaps → ContractTree → List ℕ
outcome_text Lines head i payments warnings s c = headed head true (outcome_lines payments warnings i s c)
outcome_text Objects head i payments warnings s c = head ++ outcome_members payments warnings i s c

abbrev pub left_text : Spelling → List ℕ → ℤ → List Payment → List Warning → Result Standing SemFault → List ℕ
left_text spelling head tick payments warnings (Ok a) = outcome_text spelling head (moment tick a.state) payments warnings a.state a.contract
left_text spelling head tick payments warnings (Err fault) = []

-- of a step with these inputs, over this interval, from this datum of a table: what the transaction function gives, and what the contract waits for over
-- this tick
abbrev pub step_text : Spelling → List ℕ → ℤ → Interval → Flat → Datum → List Input → List ℕ
step_text spelling head tick i table datum xs =
    if has_cont table datum.cont then (
    let w = computed i datum.state (cont_tree table datum.cont.0) xs in left_text spelling head tick w.payments w.warnings (answer_of w)
    ) else []
