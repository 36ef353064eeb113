-- What scripts are asked, and what they answer.
use Rattle.std.specs.Prelude.{ℕ, Bool, List}
use Rattle.contract.specs.declared.input.Input.{Input}
use Rattle.eutxo_types.specs.Bundle.Bundles.{Amounts}
use Rattle.eutxo_types.specs.Machine.declared.datum.Datum.{Datum}
use Rattle.eutxo_types.specs.declared.output.Output.{Output}
use Rattle.eutxo_types.specs.declared.spend.Spend.{Spend}
use Rattle.eutxo_types.specs.declared.tx.Tx.{Tx}
use Rattle.eutxo.specs.declared.validator.StepAnswer.{StepAnswer}
use Rattle.eutxo_types.specs.declared.fault.TxFault.{TxFault}
use Rattle.eutxo_types.specs.declared.fault.TxFault.TheVariants.{NotAuthorised, WrongContinuation, WrongPayment}
use Rattle.eutxo.specs.declared.step_fault.StepFault.{StepFault}
use Rattle.eutxo.specs.declared.step_fault.StepFault.TheVariants as steps

-- a step: the id of the script, the datum that is brought for what is spent, the redeemer's inputs, the place of the output from which
-- its block stands, the transaction, and all that it spends
pub record Stepping : Type 0 where
  pub script : List ℕ
  pub datum : Datum
  pub inputs : List Input
  pub from : ℕ
  pub tx : Tx
  pub spent : List (Spend × Output)

abbrev pub question : List ℕ → Datum → List Input → ℕ → Tx → List (Spend × Output) → Stepping
question script datum inputs from tx spent = record { script = script; datum = datum; inputs = inputs; from = from; tx = tx; spent = spent }

-- the fault of the transaction with which a script that takes the inputs refuses a step: those of rules 13 to 15
abbrev pub refusal_of : StepFault → TxFault
refusal_of (steps.NotAuthorised party) = NotAuthorised party
refusal_of steps.WrongContinuation = WrongContinuation
refusal_of (steps.WrongPayment i) = WrongPayment i

-- how the scripts of a type judge a step, tell a start, and grant a payout to what is spent beside it
pub record Judges (V : Type 0) : Type 0 where
  pub step : V → Stepping → StepAnswer
  pub starts : V → Datum → Amounts → Bool
  pub claims : List (Spend × Output) → List ℕ → List ℕ → Bool
