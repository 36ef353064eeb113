-- A thread that a ledger shows meets the first clause of what hinders a step.
use Rattle.std.specs.Prelude.{◌≡◌, ℕ, List, Option, Some}
use Rattle.ledger_spec.specs.EutxoTypes.Parts.{ContractLock, contract_in, Instance}
use Rattle.ledger_spec.specs.Roles.declared.published.Published.{Published}
use Rattle.ledger_spec.specs.Ledger.declared.look.Look.{Look}
use Rattle.ledger_spec.specs.Ledger.declared.look.ThreadOutput.{ThreadOutput}
use Rattle.ledger_spec.specs.BuilderSpec.Steps.{look_thread}
use Rattle.ledger_spec.specs.LedgerLaws.Past.{Past, unspent_at}
use Rattle.ledger_spec.specs.LedgerLaws.Sound.{IsSound}
use Rattle.ledger_spec.specs.LedgerLaws.Threads.{IsMade}
use Rattle.ledger_spec.specs.Roles.Steps.{marlowe}
use Rattle.ledger_spec.specs.LedgerLaws.Laws.{AreTables}

-- what is published under an id has that id
abbrev pub AreUnderIds : (List ℕ → Option Published) → Type 0
AreUnderIds published = (id : List ℕ) (p : Published) → published id ≡ Some p → p.id ≡ id

-- a contract output that is unspent after a past, with the datum that its maker brought and with what is published under its script
pub record IsShown (published : List ℕ → Option Published) (past : Past) (t : ThreadOutput) : Type 0 where
  pub lock : ContractLock
  pub instance : Instance
  pub unspent : unspent_at past t.reference ≡ Some t.output
  pub contract : contract_in t.output.lock ≡ Some lock
  pub made : IsMade past t.reference instance
  pub datum : instance.datum ≡ t.datum
  pub named : published lock.script ≡ Some t.published

-- the thread of a look that shows one so is that output, with its datum
abbrev pub ShownThreadsAreCurrent : Type 0
ShownThreadsAreCurrent = (published : List ℕ → Option Published) (past : Past) (look : Look) (t : ThreadOutput) → AreTables published → AreUnderIds published → IsSound marlowe published past →
    look.thread ≡ Some t → IsShown published past t → look_thread look ≡ Some (record { shown = t; datum = t.datum })
