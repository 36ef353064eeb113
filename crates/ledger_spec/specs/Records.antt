-- What the records of a thread say.
use Rattle.std.specs.Prelude.{◌≡◌, ◌↔◌, true, List, [], ◌∷◌, ℕ, length, map, slice_get, All, Option, Some, None}
use Rattle.contract.specs.Tree.{close}
use Rattle.builder_spec.specs.EutxoTypes.declared.output_ref.OutputRef.{OutputRef}
use Rattle.builder_spec.specs.Roles.declared.published.Published.{Published}
use Rattle.builder_spec.specs.Eutxo.Blocks.{goes_on_at}
use Rattle.builder_spec.specs.Roles.Steps.{marlowe}
use Rattle.builder_spec.specs.Roles.Terms.{Terms, terms_of}
use Rattle.ledger_laws.specs.Past.{Past}
use Rattle.ledger_laws.specs.Threads.{blocks_of, IsStart, StartsThread, Link, thread, thread_end, BringsWhatWasMade, Member, Run, Carries}
use Rattle.ledger_spec.specs.declared.step_record.StepRecord.{StepRecord}
use Rattle.builder_spec.specs.EutxoTypes.Parts.{Instance, contract_at}

-- the member of a run that a record tells of: its number stands for the remaining contract
abbrev pub member_of : Terms → StepRecord → Member
member_of t x =
    record {
      interval = x.interval;
      inputs = x.inputs;
      outcome = record { warnings = x.warnings; payments = x.payments; state = x.state; contract = t.tree x.number };
    }

-- where the thread goes on after a transaction, the first output of its block holds the record's number
abbrev pub HoldsNumber : (List ℕ → Option Published) → Past → Link → StepRecord → Type 0
HoldsNumber published past l x =
    (i : ℕ) (c : Instance) → goes_on_at (blocks_of marlowe published past l.tx) l.spends ≡ Some i → contract_at l.tx i ≡ Some c → c.datum.cont ≡ x.number

-- so each of them, transaction by transaction
abbrev pub HoldNumbers : (List ℕ → Option Published) → Past → List Link → List StepRecord → Type 0
HoldNumbers published past ls xs = (n : ℕ) (l : Link) (x : StepRecord) → slice_get ls n ≡ Some l → slice_get xs n ≡ Some x → HoldsNumber published past l x

-- there is a last of these records, and it left Close
abbrev pub LeftClose : Terms → List StepRecord → Type 0
LeftClose t [] = ⊥
LeftClose t (x ∷ []) = t.tree x.number ≡ close
LeftClose t (x ∷ y ∷ xs) = LeftClose t (y ∷ xs)

-- The thread of a start output is told on what is published under the script, transaction by transaction, as many as it has: each record has the interval and
-- the inputs of its transaction, and what the transaction function gives from the datum that this brings for the output that it spends (`CarriesOne`); its
-- number is one of the table's and stands for what remains, and where the thread goes on, its next output holds it
pub record TellTheRun (published : List ℕ → Option Published) (past : Past) (r : OutputRef) (c : Instance) (xs : List StepRecord) : Type 0 where
  pub object : Published
  pub named : published c.script ≡ Some object
  pub count : length xs ≡ length (thread marlowe published past r)
  pub carried : Carries published past (terms_of object) c.script (thread marlowe published past r) (map (member_of (terms_of object)) xs)
  pub numbers : All (λ x. (terms_of object).has x.number ≡ true) xs
  pub held : HoldNumbers published past (thread marlowe published past r) xs
  -- the thread is over exactly where they end with Close
  pub over : (thread_end marlowe published past r ≡ None) ↔ LeftClose (terms_of object) xs
  -- where the thread brings what was made, they are its run, from the state in the start's datum
  pub run : BringsWhatWasMade marlowe published past r → Run ((terms_of object).tree object.root) c.datum.state (map (member_of (terms_of object)) xs)

-- of a start output the records tell its thread; where no thread starts, there are none
pub record AreSteps (published : List ℕ → Option Published) (past : Past) (r : OutputRef) (xs : List StepRecord) : Type 0 where
  pub thread : (c : Instance) → IsStart past r c → TellTheRun published past r c xs
  pub none : (StartsThread past r → ⊥) → xs ≡ []
