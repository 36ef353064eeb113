-- Each contract output is at a number of its table, and holds exactly the sums of its accounts.
use Rattle.std.proofs.Common.{◌≡◌, ℕ, Bool, true, false, ◌&&◌, List, [], refl, sym, ◌∙◌, ap, subst, Option, Some, None}
use Rattle.std.specs.List.{slice_get}
use Rattle.std.proofs.lemmas.Bool.{eqb-true}
use Rattle.contract.proofs.FromCollections.SameLaws.{same_by_decides}
use Rattle.roles.specs.Semantics.Laws.{TurnsLead}
use Rattle.roles.specs.Nodes.declared.cont.Cont.{Cont}
use Rattle.roles.specs.Bundle.contracts.bundle.Bundle as bundles
use Rattle.roles.specs.Machine.declared.datum.Datum.{Datum}
use Rattle.roles.specs.EutxoTypes.declared.fault.TxFault.TheVariants.{WrongStart}
use Rattle.roles.specs.EutxoTypes.declared.output.Output.{Output}
use Rattle.roles.specs.EutxoTypes.declared.output_ref.OutputRef.{OutputRef}
use Rattle.roles.specs.EutxoTypes.declared.spend.Spend.{Spend}
use Rattle.roles.specs.EutxoTypes.declared.tx.Tx.{Tx}
use Rattle.roles.specs.EutxoTypes.Parts.{is_contract, contract_in, Instance, lock_of, contract_at, steps}
use Rattle.roles.specs.Eutxo.Laws.{FoundIsEnough}
use Rattle.roles.specs.Eutxo.Asked.{Stepping}
use Rattle.roles.specs.Eutxo.Blocks.{answer_by, step_asked, continues, fault_in, step_fault}
use Rattle.roles.specs.Eutxo.BlockLaws.{BlocksTell}
use Rattle.roles.specs.Eutxo.Rules.{Step, starts_wrong, starts_wrong_at}
use Rattle.roles.specs.declared.published.Published.{Published}
use Rattle.roles.specs.Terms.{IsTable, terms_of}
use Rattle.roles.specs.Steps.{same_cont, is_fresh, same_amounts, starts_from, step_of, marlowe}
use Rattle.roles.specs.Sums.{sums_of}
use Rattle.ledger_laws.specs.Past.{Past, before, unspent_at}
use Rattle.ledger_laws.specs.Sound.{IsSound}
use Rattle.ledger_laws.specs.Threads.{IsMade}
use Rattle.ledger_laws.specs.Laws.{IsContractInput, ContractsAreFunded, ContractsAreOfTables}
use Rattle.ledger_laws.proofs.PlainLaws.{and_true, not_false, same_some}
use Rattle.ledger_laws.proofs.PartLaws.{script_so}
use Rattle.ledger_laws.proofs.JudgedLemmas.{mapped_none, unplaced}
use Rattle.ledger_laws.proofs.PairedLemmas.{none_steps}
use Rattle.ledger_laws.proofs.AcceptedLaws.{spent_at, tells_at, made_published, steps_one, step_from, block_at}
use Rattle.ledger_laws.proofs.FlowLemmas.{goes_from}
use Rattle.ledger_laws.proofs.MadeLaws.{made_of, each_tells, made_unspent}
use Rattle.ledger_laws.proofs.LaidOutLemmas.{datum_after, stepped_so, continues_so, led_so}

-- a start is at the root, holds the sums of its accounts, and has neither choices nor bound values
pub started : (p : Published) (d : Datum) (o : Output) → starts_from p.root d o.amount ≡ true → (p.root ≡ d.cont) × (o.amount ≡ sums_of d.state) × (is_fresh d.state ≡ true)
started p d o h =
    let a = and_true (same_cont p.root d.cont && is_fresh d.state) (same_amounts o.amount (sums_of d.state)) h in
    let b = and_true (same_cont p.root d.cont) (is_fresh d.state) a.0 in
    (ap (λ (n : ℕ). let k : Cont = record { 0 = n } in k) (eqb-true p.root.0 d.cont.0 b.0), (same_by_decides bundles.the_row.coded o.amount (sums_of d.state)).0 a.1, b.1)

-- what holds of a contract output: it holds the sums of its accounts, at a number of what was published
record Stands (p : Published) (o : Output) (c : Instance) : Type 0 where
  pub sums : o.amount ≡ sums_of c.datum.state
  pub number : TurnsLead → IsTable (terms_of p) → (terms_of p).has c.datum.cont ≡ true

module _ (enough : FoundIsEnough marlowe) (named : List ℕ → Option Published) (past : Past) (sound : IsSound marlowe named past) where
  -- of a transaction that steps nothing it is a start
  pub starting_at : (n : ℕ) (tx : Tx) → slice_get past.accepted n ≡ Some tx → steps tx ≡ false → (k : ℕ) (o : Output) (c : Instance) → slice_get tx.outputs k ≡ Some o → contract_at tx k ≡ Some c →
      (p : Published) → named c.script ≡ Some p → (p.root ≡ c.datum.cont) × (o.amount ≡ sums_of c.datum.state) × (is_fresh c.datum.state ≡ true)
  starting_at n tx at bare k o c out make p is =
      let s = spent_at marlowe enough named past sound n tx at in
      let none = none_steps (unspent_at (before past n)) tx.inputs s.ys tx.datums s.pairs s.kinds bare in
      let step : step_fault marlowe named tx s.ys [] ≡ None = subst (λ (l : List Step). step_fault marlowe named tx s.ys l ≡ None) none s.step in
      let here = unplaced (λ i (x : Output). starts_wrong marlowe named x.amount (contract_at tx i)) tx.outputs (mapped_none WrongStart _ step) k o out in
      let there : starts_wrong marlowe named o.amount (Some c) ≡ false = subst (λ (z : Option Instance). starts_wrong marlowe named o.amount z ≡ false) make here in
      started p c.datum o (not_false (starts_from p.root c.datum o.amount) (subst (λ (v : Option Published). starts_wrong_at marlowe v c.datum o.amount ≡ false) is there))

module _ (enough : FoundIsEnough marlowe) (tell : BlocksTell marlowe) (named : List ℕ → Option Published) (past : Past) (sound : IsSound marlowe named past) where
  -- and of one that steps a contract input goes on in it
  stepping_at : (n i : ℕ) (tx : Tx) (x : Spend) (u : Output) → IsContractInput past n i tx x u → (k : ℕ) (o : Output) (c : Instance) → slice_get tx.outputs k ≡ Some o → contract_at tx k ≡ Some c →
      (p : Published) → named c.script ≡ Some p → Stands p o c
  stepping_at n i tx x u input k o c out make p is =
      let at = input.accepted in
      let ys = (spent_at marlowe enough named past sound n tx at).ys in
      let g = goes_from marlowe enough tell named past sound n i tx x u at input k c make in
      let w = step_from marlowe enough named past sound n tx at g.number g.step g.there in
      let b = block_at marlowe enough named past sound n tx at g.number g.step g.there in
      let s : Stepping = step_asked tx ys b.«from» g.step in
      let z = stepped_so (terms_of w.script) s (tells_at marlowe enough named past sound n tx at) (ap (λ (v : Option Published). fault_in (answer_by marlowe v s)) (sym w.published) ∙ b.passes) in
      let goes : continues b.«from» (step_of (terms_of w.script) s) ≡ Some k = ap (λ (v : Option Published). continues b.«from» (answer_by marlowe v s)) (sym w.published) ∙ sym b.goes ∙ g.goes in
      let on = continues_so (terms_of w.script) s z k c goes make in
      let same : w.script ≡ p = same_some w.script p (sym w.published ∙ ap (λ (e : Instance). named e.script) (sym on.contract) ∙ is) in
      record {
        sums = ap (λ (e : Output). e.amount) (same_some o _ (sym out ∙ on.output)) ∙ ap (λ (e : Instance). sums_of e.datum.state) (sym on.contract);
        number = λ turns table.
            ap (λ (e : Instance). (terms_of p).has e.datum.cont) on.contract
            ∙ ap (λ (v : Published). (terms_of v).has (datum_after (terms_of w.script) s (z.at).state).cont) (sym same)
            ∙ (led_so turns (terms_of w.script) (subst (λ (v : Published). IsTable (terms_of v)) (sym same) table) s z).0;
      }

  made_stands : (n : ℕ) (tx : Tx) → slice_get past.accepted n ≡ Some tx → (k : ℕ) (o : Output) (c : Instance) → slice_get tx.outputs k ≡ Some o → contract_at tx k ≡ Some c →
      (p : Published) → named c.script ≡ Some p → Stands p o c
  made_stands n tx at k o c out make p is = by (steps tx) refl
    where
      by : (b : Bool) → steps tx ≡ b → Stands p o c
      by true h = let one = steps_one marlowe enough named past sound n tx at h in stepping_at n one.0 tx one.1 one.2 one.3 k o c out make p is
      by false h =
          let s = starting_at enough named past sound n tx at h k o c out make p is in
          record { sums = s.1; number = λ turns table. ap (terms_of p).has (sym s.0) ∙ table.root }

  stands : (q : OutputRef) (o : Output) → unspent_at past q ≡ Some o → is_contract o.lock ≡ true →
      (c : Instance) × IsMade past q c × (contract_in o.lock ≡ Some (lock_of c)) × ((p : Published) × (named c.script ≡ Some p) × Stands p o c)
  stands q o h k =
      let m = made_of past sound.keys (each_tells marlowe enough named past sound) q o h k in
      let out = (made_unspent marlowe enough named past sound q m.0 o m.1 h).0 in
      let p = made_published marlowe enough named past sound m.1.number m.1.tx m.1.accepted m.1.index o (m.0).script out (script_so o.lock (lock_of m.0) m.2) in
      (m.0, m.1, m.2, (p.0, p.1, made_stands m.1.number m.1.tx m.1.accepted m.1.index o m.0 out m.1.contract p.0 p.1))

pub contracts_are_funded : FoundIsEnough marlowe → BlocksTell marlowe → ContractsAreFunded
contracts_are_funded enough tell named past sound q o h k =
    let s = stands enough tell named past sound q o h k in
    (s.0, s.1, s.2, s.3.2.sums)

pub contracts_are_of_tables : TurnsLead → FoundIsEnough marlowe → BlocksTell marlowe → ContractsAreOfTables
contracts_are_of_tables turns enough tell named past tables sound q o h k =
    let s = stands enough tell named past sound q o h k in
    (s.0, s.1, s.2, (s.3.0, s.3.1, s.3.2.number turns (tables (s.0).script s.3.0 s.3.1)))
