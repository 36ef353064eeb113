-- Contracts flow through the accepted transactions of a sound past.
use Rattle.std.proofs.Common.{◌≡◌, ℕ, true, List, sym, ◌∙◌, ap, Option, Some}
use Rattle.std.specs.List.{slice_get}
use Rattle.roles.specs.EutxoTypes.declared.output.Output.{Output}
use Rattle.roles.specs.EutxoTypes.declared.output_ref.OutputRef.{OutputRef}
use Rattle.roles.specs.EutxoTypes.declared.spend.Spend.{Spend}
use Rattle.roles.specs.EutxoTypes.declared.tx.Tx.{Tx}
use Rattle.roles.specs.EutxoTypes.Ids.{id_of}
use Rattle.roles.specs.EutxoTypes.Parts.{same_ref, is_contract, Instance, lock_of, contract_at}
use Rattle.roles.specs.Eutxo.Asked.{Judges}
use Rattle.roles.specs.Eutxo.Blocks.{Block, blocks, goes_on_at}
use Rattle.roles.specs.Eutxo.BlockLaws.{Tell, BlocksTell}
use Rattle.roles.specs.Eutxo.Laws.{FoundIsEnough}
use Rattle.roles.specs.Eutxo.Rules.{Step}
use Rattle.ledger_laws.specs.Past.{Past, before, is_input_of, unspent_at}
use Rattle.ledger_laws.specs.Sound.{IsSound}
use Rattle.ledger_laws.specs.Laws.{IsContractInput}
use Rattle.ledger_laws.specs.Threads.{blocks_of, next_of}
use Rattle.ledger_laws.proofs.PlainLaws.{any_at}
use Rattle.ledger_laws.proofs.PartLaws.{contract_of_lock, is_contract_so, under_so}
use Rattle.ledger_laws.proofs.ReferenceLaws.{same_ref-refl, same_made, unspent_so}
use Rattle.ledger_laws.proofs.FindingLemmas.{blocks_pass}
use Rattle.ledger_laws.proofs.AcceptedLaws.{spent_at, steps_at, fresh_at_steps, blocks_so, one_place, named_input, input_steps, steps_one, read_at, step_from}
use Rattle.ledger_laws.proofs.MadeLaws.{made_of, each_before, made_output}
use Rattle.ledger_laws.proofs.SpineLaws.{next_there, next_so}
use Rattle.ledger_laws.proofs.KernelLemmas.{IsOpen, Spends, Flow}

module _ {V : Type 0} (j : Judges V) (enough : FoundIsEnough j) (tell : BlocksTell j) (named : List ℕ → Option V) (past : Past) (sound : IsSound j named past) where
  -- an unspent contract output is open
  pub opened : (n : ℕ) (q : OutputRef) (o : Output) → unspent_at (before past n) q ≡ Some o → is_contract o.lock ≡ true → IsOpen (before past n) q
  opened n q o h c = let m = made_of (before past n) sound.keys (each_before j enough named past sound n) q o h c in record { contract = m.0; made = m.1; unspent = (unspent_so (before past n) q o h).0 }

  -- a contract input spends its output
  pub spends_it : (n i : ℕ) (tx : Tx) (x : Spend) (o : Output) → IsContractInput past n i tx x o → is_input_of x.reference tx ≡ true
  spends_it n i tx x o k = any_at (λ (y : Spend). same_ref y.reference x.reference) tx.inputs i x k.input (same_ref-refl x.reference)

  -- what a transaction spends that was made with a contract is a contract input of it
  spent_input : (n : ℕ) (tx : Tx) (p : OutputRef) → slice_get past.accepted n ≡ Some tx → Spends past tx p → (i : ℕ) × (x : Spend) × (o : Output) × IsContractInput past n i tx x o × (x.reference ≡ p)
  spent_input n tx p at s =
      let z = made_output j enough named past sound p s.1.0 s.1.1 in
      let k = named_input j enough named past sound n tx at p z.0 s.0 z.1 (is_contract_so (z.0).lock (lock_of s.1.0) z.2) in
      (k.0.index, k.0.input, z.0, k.1, k.0.name)

  abbrev all : (n : ℕ) (tx : Tx) → slice_get past.accepted n ≡ Some tx → List Block
  all n tx at = blocks j named tx (spent_at j enough named past sound n tx at).ys (steps_at j enough named past sound n tx at) 0

  -- a transaction with a contract input tells its contracts apart
  pub tell_at : (n i : ℕ) (tx : Tx) (x : Spend) (o : Output) → (at : slice_get past.accepted n ≡ Some tx) → IsContractInput past n i tx x o →
      Tell (steps_at j enough named past sound n tx at) (blocks j named tx (spent_at j enough named past sound n tx at).ys (steps_at j enough named past sound n tx at) 0) tx.outputs
  tell_at n i tx x o at k =
      let l = contract_of_lock o.lock k.contract in
      let r = read_at j enough named past sound n i tx x o l.0 at k l.1 in
      let s = spent_at j enough named past sound n tx at in
      let ss = steps_at j enough named past sound n tx at in
      tell named tx s.ys ss (fresh_at_steps j enough named past sound n tx at) (blocks_pass j named tx s.ys ss r.number _ s.step r.step)

  -- in a contract output of a transaction that steps, a contract input goes on
  pub record From (n : ℕ) (tx : Tx) (at : slice_get past.accepted n ≡ Some tx) (i : ℕ) : Type 0 where
    pub number : ℕ
    pub step : Step
    pub there : slice_get (steps_at j enough named past sound n tx at) number ≡ Some step
    pub goes : goes_on_at (blocks_of j named past tx) step.reference ≡ Some i

  pub goes_from : (n k : ℕ) (tx : Tx) (x : Spend) (u : Output) → (at : slice_get past.accepted n ≡ Some tx) → IsContractInput past n k tx x u → (i : ℕ) (c : Instance) → contract_at tx i ≡ Some c → From n tx at i
  goes_from n k tx x u at input i c h =
      let o = under_so tx i c h in
      let g = (tell_at n k tx x u at input).onto i o.0 o.1 (is_contract_so (o.0).lock o.2 o.3) in
      record { number = g.0; step = g.1; there = g.2; goes = ap (λ (bs : List Block). goes_on_at bs (g.1).reference) (blocks_so j enough named past sound n tx at) ∙ g.3 }

  pub flow : Flow (next_of j named past) past
  flow = record {
    single = one_place j enough named past sound;
    goes = λ n tx p q at h. let g = next_so tx (goes_on_at (blocks_of j named past tx) p) q h in (g.place, g.made, g.name, g.contract);
    stepped = λ n tx p at s. let k = spent_input n tx p at s in input_steps j enough named past sound n k.0 tx k.1 k.2 k.3;
    apart = λ n tx p q r at s t h k.
        let i = spent_input n tx p at s in
        let a = next_so tx (goes_on_at (blocks_of j named past tx) p) r h in
        let b = next_so tx (goes_on_at (blocks_of j named past tx) q) r k in
        let place : b.place ≡ a.place = (same_made (id_of tx) (id_of tx) b.place a.place (sym b.name ∙ a.name)).1 in
        let these = blocks_so j enough named past sound n tx at in
        (tell_at n i.0 tx i.1 i.2 at i.3).apart p q a.place (ap (λ (bs : List Block). goes_on_at bs p) (sym these) ∙ a.goes)
        (ap (λ (bs : List Block). goes_on_at bs q) (sym these) ∙ b.goes ∙ ap (λ (z : ℕ). Some z) place);
    onto = λ n tx i c at h k.
        let one = steps_one j enough named past sound n tx at h in
        let g = goes_from n one.0 tx one.1 one.2 at one.3 i c k in
        let w = step_from j enough named past sound n tx at g.number g.step g.there in (
          w.input.reference,
          opened n w.input.reference w.output (w.contract).there (w.contract).contract,
          spends_it n w.index tx w.input w.output w.contract,
          next_there tx (goes_on_at (blocks_of j named past tx) w.input.reference) i c (ap (goes_on_at (blocks_of j named past tx)) w.reference ∙ g.goes) k,
        );
  }
