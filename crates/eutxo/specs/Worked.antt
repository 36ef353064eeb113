-- Worked judgements: what the rules that read the ledger answer, and those on blocks.
use Rattle.std.specs.Prelude.{◌≡◌, ℕ, ℤ, pos, true, false, not, List, [], ◌∷◌, replicate, Option, Some, None}
use Rattle.std.specs.FinMap as maps
use Rattle.eutxo_types.specs.declared.fault.TxFault.TheVariants.{NotUnspent, IdInUse, OutsideInterval, UnknownScript, TooManyContracts, NotAuthorised, WrongPayment, StrayContract}
use Rattle.eutxo_types.specs.declared.lock.Lock.TheVariants.{Key, Contract}
use Rattle.eutxo_types.specs.declared.output.Output.{Output}
use Rattle.eutxo_types.specs.declared.output_ref.OutputRef.TheVariants.{Genesis}
use Rattle.eutxo_types.specs.declared.redeemer.Redeemer.TheVariants as with
use Rattle.eutxo_types.specs.declared.spend.Spend.{Spend}
use Rattle.eutxo_types.specs.declared.tx.Tx.{Tx}
use Rattle.eutxo_types.specs.Machine.declared.datum.Datum.{Datum}
use Rattle.contract.specs.Names.declared.party.Party.{Party}
use Rattle.contract.specs.Names.Equal.{same_bytes}
use Rattle.eutxo.specs.declared.step_fault.StepFault.{StepFault}
use Rattle.eutxo.specs.declared.step_fault.StepFault.TheVariants as steps
use Rattle.eutxo.specs.declared.validator.StepAnswer.{StepAnswer}
use Rattle.eutxo.specs.declared.validator.StepAnswer.TheVariants.{Takes}
use Rattle.eutxo.specs.Asked.{Judges}
use Rattle.eutxo.specs.Blocks.{Block, blocks, places_in, goes_on_at, block_fault}
use Rattle.eutxo.specs.Rules.{Step, too_many_contracts}
use Rattle.eutxo.specs.Judgement.{Moment, judge}

-- one input, the first output that the ledger began with, from 0 to 9, signed by nobody
abbrev pub one_input : List Output → Tx
one_input os = record { inputs = record { reference = Genesis 0; redeemer = with.None } ∷ []; outputs = os; interval = record { from = pos 0; to = pos 9 }; signers = []; datums = [] }

-- at a tick each reference finds a key output that holds nothing; no id is used, and nothing is published
abbrev pub at_tick : {V : Type 0} → ℤ → Moment V
at_tick t = record { unspent = λ _. Some (record { lock = Key []; amount = maps.empty }); published = λ _. None; is_used = λ _. false; tick = t }

-- an input that names nothing unspent
abbrev pub NothingIsNotUnspent : {V : Type 0} → Judges V → Type 0
NothingIsNotUnspent j = judge j (record (at_tick (pos 0)) { unspent = λ _. None }) (one_input []) ≡ Some (NotUnspent 0)

-- an id that an accepted transaction has
abbrev pub UsedIsInUse : {V : Type 0} → Judges V → Type 0
UsedIsInUse j = judge j (record (at_tick (pos 0)) { is_used = λ _. true }) (one_input []) ≡ Some IdInUse

-- the interval from 0 to 9, at 10
abbrev pub TenIsOutside : {V : Type 0} → Judges V → Type 0
TenIsOutside j = judge j (at_tick (pos 10)) (one_input []) ≡ Some OutsideInterval

-- a start of a script that isn't published
abbrev pub UnpublishedIsUnknown : {V : Type 0} → Judges V → Type 0
UnpublishedIsUnknown j = (script digest : List ℕ) → judge j (at_tick (pos 0)) (one_input (record { lock = Contract script digest; amount = maps.empty } ∷ [])) ≡ Some (UnknownScript 0)

-- ---- blocks, of scripts that answer what they are

abbrev pub told : Judges StepAnswer
told = record { step = λ answer s. answer; starts = λ answer d held. true; claims = λ spent currency role. true }

abbrev pub script_a : List ℕ
script_a = 0x0a ∷ []

abbrev pub script_b : List ℕ
script_b = 0x0b ∷ []

-- the first is over without payments, the second goes on without any
abbrev pub over_or_on : List ℕ → Option StepAnswer
over_or_on id = Some (Takes None (not (same_bytes id script_a)) 0)

abbrev pub step_at : ℕ → List ℕ → Datum → Step
step_at i script d = record { reference = Genesis i; script = script; datum = d; inputs = [] }

abbrev pub over_then_on : Datum → List Output → List Block
over_then_on d os = blocks told over_or_on (one_input os) [] (step_at 0 script_a d ∷ step_at 1 script_b d ∷ []) 0

abbrev pub contract_output : Output
contract_output = record { lock = Contract script_b []; amount = maps.empty }

-- ONE IS OVER AND ONE GOES ON: the empty block of the first stands where that of the second does. The first goes on nowhere, the second in
-- output 0; and one contract output more is a stray one
pub record OverIsNotFollowed (d : Datum) : Type 0 where
  pub over : goes_on_at (over_then_on d (contract_output ∷ [])) (Genesis 0) ≡ None
  pub on : goes_on_at (over_then_on d (contract_output ∷ [])) (Genesis 1) ≡ Some 0
  pub places : places_in (over_then_on d (contract_output ∷ [])) ≡ None ∷ Some 0 ∷ []
  pub passes : block_fault (over_then_on d (contract_output ∷ [])) (contract_output ∷ []) ≡ None
  pub stray : block_fault (over_then_on d (contract_output ∷ contract_output ∷ [])) (contract_output ∷ contract_output ∷ []) ≡ Some (StrayContract 1)

-- 8 contracts are not too many, 9 are
abbrev pub stepped_contract : Spend × Output
stepped_contract = (record { reference = Genesis 0; redeemer = with.Step [] }, contract_output)

abbrev pub NineAreTooMany : Type 0
NineAreTooMany = (too_many_contracts (replicate 8 stepped_contract) ≡ None) × (too_many_contracts (replicate 9 stepped_contract) ≡ Some TooManyContracts)

-- of two contracts the second one's lower number answers, and of equal numbers the first one's
abbrev pub refused_with : StepFault → Block
refused_with fault = record { from = 0; reference = Genesis 0; answer = Takes (Some fault) false 0 }

abbrev pub TheLowestAnswers : Type 0
TheLowestAnswers =
    (party : Party) → (block_fault (refused_with steps.WrongContinuation ∷ refused_with (steps.NotAuthorised party) ∷ []) [] ≡ Some (NotAuthorised party))
    × (block_fault (refused_with (steps.WrongPayment 3) ∷ refused_with (steps.WrongPayment 5) ∷ []) [] ≡ Some (WrongPayment 3))
