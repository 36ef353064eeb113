-- What is made with a contract, and stands under its lock.
use Rattle.std.proofs.Common.{◌≡◌, ℕ, true, List, sym, ◌∙◌, ap, Option, Some, inl, inr}
use Rattle.std.specs.List.{slice_get}
use Rattle.std.specs.Map.{lookup}
use Rattle.roles.specs.EutxoTypes.declared.output.Output.{Output}
use Rattle.roles.specs.EutxoTypes.declared.output_ref.OutputRef.{OutputRef}
use Rattle.roles.specs.EutxoTypes.declared.tx.Tx.{Tx}
use Rattle.roles.specs.EutxoTypes.Ids.{id_of}
use Rattle.roles.specs.EutxoTypes.Parts.{is_contract, ContractLock, contract_in, Instance, lock_of, contract_at, same_ref}
use Rattle.roles.specs.Eutxo.Laws.{FoundIsEnough}
use Rattle.roles.specs.Eutxo.Asked.{Judges}
use Rattle.ledger_laws.specs.Past.{Past, before, created, unspent_at}
use Rattle.ledger_laws.specs.Sound.{AreKeys, IsSound}
use Rattle.ledger_laws.specs.Threads.{IsMade}
use Rattle.ledger_laws.proofs.PlainLaws.{same_some, taken_at}
use Rattle.ledger_laws.proofs.PartLaws.{contract_of_lock}
use Rattle.ledger_laws.proofs.DatumLaws.{Tells, output_so}
use Rattle.ledger_laws.proofs.ReferenceLaws.{same_made, maker, unspent_so}
use Rattle.ledger_laws.proofs.AcceptedLaws.{no_contract_first, tells_at, one_place, made_there}

-- each contract output of an accepted transaction is made at the datum whose digest it holds
abbrev pub EachTells : Past → Type 0
EachTells past = (n : ℕ) (tx : Tx) → slice_get past.accepted n ≡ Some tx → Tells tx

-- an unspent contract output was made with a contract, under whose lock it stands
pub made_of : (past : Past) → AreKeys past.genesis → EachTells past → (q : OutputRef) (o : Output) → unspent_at past q ≡ Some o → is_contract o.lock ≡ true →
    (c : Instance) × IsMade past q c × (contract_in o.lock ≡ Some (lock_of c))
made_of past keys tells q o h c =
    elim (maker past q o (unspent_so past q o h).1) [
      | inl g ↦ absurd (no_contract_first past.genesis keys g.0 o g.1 c)
      | inr m ↦
          let l = contract_of_lock o.lock c in
          let z = (tells m.number m.tx m.accepted).made m.index o l.0 m.made l.1 in
          (z.0, record { number = m.number; tx = m.tx; accepted = m.accepted; index = m.index; name = m.name; contract = z.1 }, l.1 ∙ ap (λ (k : ContractLock). Some k) z.2)
    ]

module _ {V : Type 0} (j : Judges V) (enough : FoundIsEnough j) (named : List ℕ → Option V) (past : Past) (sound : IsSound j named past) where
  pub each_tells : EachTells past
  each_tells n tx at = tells_at j enough named past sound n tx at

  pub each_before : (n : ℕ) → EachTells (before past n)
  each_before n m tx at = each_tells m tx (taken_at n m past.accepted tx at).0

  -- what is made was created, under its contract's lock
  pub made_output : (q : OutputRef) (c : Instance) → IsMade past q c → (o : Output) × (lookup (same_ref q) (created past) ≡ Some o) × (contract_in o.lock ≡ Some (lock_of c))
  made_output q c m =
      let o = output_so m.tx (each_tells m.number m.tx m.accepted) m.index c m.contract in
      (o.0, ap (λ (k : OutputRef). lookup (same_ref k) (created past)) m.name ∙ made_there j enough named past sound m.number m.tx m.accepted m.index o.0 o.1, o.2)

  -- an unspent output is the one that was made
  pub made_unspent : (q : OutputRef) (c : Instance) (o : Output) → (m : IsMade past q c) → unspent_at past q ≡ Some o →
      (slice_get (m.tx).outputs m.index ≡ Some o) × (contract_in o.lock ≡ Some (lock_of c))
  made_unspent q c o m h =
      let z = output_so m.tx (each_tells m.number m.tx m.accepted) m.index c m.contract in
      let there = made_there j enough named past sound m.number m.tx m.accepted m.index z.0 z.1 in
      let same : z.0 ≡ o = same_some z.0 o (sym there ∙ sym (ap (λ (k : OutputRef). lookup (same_ref k) (created past)) m.name) ∙ (unspent_so past q o h).1) in
      (z.1 ∙ ap (λ (x : Output). Some x) same, ap (λ (x : Output). contract_in x.lock) (sym same) ∙ z.2)

  -- an output is made with one contract
  pub made_once : (q : OutputRef) (c d : Instance) → IsMade past q c → IsMade past q d → d ≡ c
  made_once q c d a b =
      let e = same_made (id_of a.tx) (id_of b.tx) a.index b.index (sym a.name ∙ b.name) in
      let place : a.number ≡ b.number = one_place j enough named past sound a.number b.number a.tx b.tx a.accepted b.accepted e.0 in
      let same : a.tx ≡ b.tx = same_some a.tx b.tx (sym a.accepted ∙ ap (slice_get past.accepted) place ∙ b.accepted) in
      same_some d c (sym b.contract ∙ ap (λ (t : Tx). contract_at t b.index) (sym same) ∙ ap (contract_at a.tx) (sym e.1) ∙ a.contract)
