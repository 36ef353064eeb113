-- A script that isn't Marlowe's: an output is locked until a time, and then its owner's.
use Rattle.std.specs.Prelude.{◌≡◌, ℕ, int_le, ◌≤ℤ◌, Bool, true, false, ◌&&◌, if◌then◌else◌, List, slice_get, Option, Some, None}
use Rattle.contract.specs.Names.declared.party.Party.TheVariants.{Address}
use Rattle.chain.specs.LedgerSpec.EutxoTypes.declared.output.Output.{Output}
use Rattle.chain.specs.LedgerSpec.EutxoTypes.declared.spend.Spend.{Spend}
use Rattle.chain.specs.LedgerSpec.EutxoTypes.declared.tx.Tx.{Tx}
use Rattle.chain.specs.LedgerSpec.EutxoTypes.declared.verdict.Verdict.{Verdict}
use Rattle.chain.specs.LedgerSpec.EutxoTypes.declared.verdict.Verdict.TheVariants.{Accepted}
use Rattle.chain.specs.LedgerSpec.EutxoTypes.Parts.{script_in}
use Rattle.chain.specs.LedgerSpec.Eutxo.declared.step_fault.StepFault.TheVariants.{NotAuthorised}
use Rattle.chain.specs.LedgerSpec.Eutxo.declared.validator.StepAnswer.{StepAnswer}
use Rattle.chain.specs.LedgerSpec.Eutxo.declared.validator.StepAnswer.TheVariants.{Takes}
use Rattle.chain.specs.LedgerSpec.Eutxo.Asked.{Stepping, Judges}
use Rattle.chain.specs.LedgerSpec.Eutxo.Found.{whole}
use Rattle.chain.specs.LedgerSpec.Eutxo.Rules.{has_signed}
use Rattle.uses.specs.declared.other_script.TimeLock.{TimeLock}
use Rattle.uses.specs.Resolutions.{resolution_of}

-- the owner has signed, and the transaction happens no earlier than the lock opens
abbrev pub may_open : TimeLock → Tx → Bool
may_open l tx = has_signed tx.signers l.owner && int_le l.from tx.interval.from

-- what a lock answers to a step: it never goes on, and nothing is due
abbrev pub lock_answer : TimeLock → Stepping → StepAnswer
lock_answer l s = Takes (if may_open l s.tx then None else Some (NotAuthorised (Address l.owner))) false 0

-- how locks judge: every output is a start, and no payout is granted
abbrev pub time_locks : Judges TimeLock
time_locks = record { step = lock_answer; starts = λ l d held. true; claims = λ spent currency role. false }

-- what is accepted and spends an output under the lock's id is signed by its owner, and starts no earlier than the lock opens
abbrev pub KeepsTheLock : List ℕ → TimeLock → Tx → List (Option Output) → Verdict → Type 0
KeepsTheLock id l tx outputs v =
    (spent : List (Spend × Output)) (n : ℕ) (x : Spend × Output) → v ≡ Accepted → whole tx (resolution_of outputs id l) ≡ Some spent →
    slice_get spent n ≡ Some x → script_in x.1.lock ≡ Some id → (has_signed tx.signers l.owner ≡ true) × (l.from ≤ℤ tx.interval.from)
