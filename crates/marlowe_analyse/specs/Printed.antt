-- What is printed of a contract's text and a state's.
use Rattle.std.specs.Prelude.{◌≡◌, ◌↔◌, ℕ, ℤ, Bool, true, false, not, ◌||◌, if◌then◌else◌, List, [], map, Option, option_map, IfSome, Result, Ok}
use Rattle.contract.specs.Collections.Answers.{◌>>=◌}
use Rattle.contract.specs.Tree.{ContractTree, contract_tree}
use Rattle.contract.specs.States.States.{StateMaps}
use Rattle.marlowe_run.specs.JsonReadNames.ReadsText.{of_text_within}
use Rattle.marlowe_run.specs.JsonReadContracts.ReadsContract.{contract}
use Rattle.analysis_spec.specs.declared.kind.AlarmKind.TheVariants.{Leaves128}
use Rattle.analysis_spec.specs.declared.path.PathStep.{PathStep}
use Rattle.analysis_spec.specs.Analysed.{IsSilent}
use Rattle.bound_runs.specs.declared.shown.ShownRange.{ShownRange}
use Rattle.bound_runs.specs.declared.shown.ShownLoss.{ShownLoss}
use Rattle.bound_runs.specs.Told.{AreReached, AreLost, ranges_of, losses_of}
use Rattle.places.specs.declared.key.Key.{Key}
use Rattle.places.specs.Places.{path_keys}
use Rattle.marlowe_run.specs.MarloweRefusals.declared.fault.RunFault.{RunFault}
use Rattle.marlowe_run.specs.MarloweRefusals.Faults.{read_as, contract_fault, state_fault}
use Rattle.marlowe_run.specs.declared.readable.Readable.{Readable}
use Rattle.marlowe_run.specs.Start.{start_of}
use Rattle.alike_alarms.specs.Alike.{AreHeads}
use Rattle.analysis_lines.specs.ToldLines.{Line, line_at, with_heads}
use Rattle.analysis_lines.specs.Lines.{told_lines}
use Rattle.analysis_lines.specs.Tools.{told_line}
use Rattle.marlowe_analyse.specs.declared.analysed.Telling.{Telling}
use Rattle.marlowe_analyse.specs.Told.{Alarms, seen_alarm, without_runs, IsSo, NeverAlarms}

-- JSON for tools, or lines for people
abbrev pub printed : Telling → Bool → StateMaps → ContractTree → List Line → List (List Key) → List ShownRange → Option (Option ℤ) → Option (List ShownLoss) → List ℕ
printed telling given s c lines places ranges out losses =
    if telling.tools then told_line telling.runs telling.notes s c lines places ranges out losses
    else told_lines telling.runs telling.notes given s c lines places ranges out losses

-- of alarms of one kind at equal parts people are told one, with how many others there are, unless all are wanted
abbrev pub AreHeadsIf : Bool → ContractTree → Alarms → List (Option ℕ) → Type 0
AreHeadsIf true c alarms found = AreHeads c (map seen_alarm alarms) found
AreHeadsIf false c alarms found = found ≡ []

abbrev pub AreHeadsFor : Telling → ContractTree → Alarms → List (Option ℕ) → Type 0
AreHeadsFor telling = AreHeadsIf (not (telling.tools || telling.all))

-- the contract is read first, within its depth, and then the state, whose numbers may be texts where that is said
abbrev pub what_is_read : Readable → List ℕ → Option (List ℕ) → Result (StateMaps × ContractTree) RunFault
what_is_read readable text start =
    read_as contract_fault (of_text_within readable.depth contract text) >>= λ given.
    read_as state_fault (start_of readable.text_numbers start) >>= λ s.
    Ok (s, contract_tree given)

-- or why one of them isn't
abbrev pub is_read : Readable → List ℕ → Option (List ℕ) → Result (Unit {0}) RunFault
is_read readable text start = what_is_read readable text start >>= λ _. Ok tt

abbrev pub IsReadAs : Readable → List ℕ → Option (List ℕ) → StateMaps → ContractTree → Type 0
IsReadAs readable text start s c = what_is_read readable text start ≡ Ok (s, c)

-- what is printed tells what is so of a contract and a state. It is said to be clear where there is no alarm, to have unreached
-- parts where one is told, and not to stay within 128 bits only where an alarm says so
abbrev pub TellsOfTree : Telling → Bool → StateMaps → ContractTree → Bool → Bool → Bool → List ℕ → Type 0
TellsOfTree telling given s c clear unreached stays out =
    (alarms : Alarms) × (found : List (Option ℕ)) × (places : List (List PathStep)) × (ranges : List ShownRange) × (time : Option (Option ℤ)) × (losses : Option (List ShownLoss))
    × IsSo s c alarms places (ranges_of ranges) time (option_map losses_of losses) × AreReached s c ranges × IfSome losses (AreLost s c) × AreHeadsFor telling c alarms found
    × (out ≡ printed telling given s c (with_heads (map (line_at c) alarms) found) (map path_keys places) ranges time losses)
    × (clear ≡ true ↔ alarms ≡ []) × (unreached ≡ false ↔ places ≡ []) × (stays ≡ false → IsSilent (without_runs alarms) Leaves128 → ⊥)

-- it never warns, and stays within 128 bits
abbrev pub IsClear : Readable → List ℕ → Option (List ℕ) → Type 0
IsClear readable text start = (s : StateMaps) (c : ContractTree) → IsReadAs readable text start s c → NeverAlarms s c
