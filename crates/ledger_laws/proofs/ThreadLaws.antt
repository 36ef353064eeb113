-- Each contract input stands on exactly one thread, and each unspent contract output ends one.
use Rattle.std.proofs.Common.{◌≡◌, cond, not, ℕ, suc, Bool, false, ◌∷◌, List, [], ◌++◌, sym, ◌∙◌, ap, Option, Some, None, take, drop, inl, inr}
use Rattle.std.specs.List.{slice_get}
use Rattle.std.specs.Map.{lookup}
use Rattle.std.proofs.lemmas.List.{take-append-drop}
use Rattle.std.proofs.lemmas.List.Folds.{list_any-append}
use Rattle.roles.specs.EutxoTypes.declared.output_ref.OutputRef.{OutputRef}
use Rattle.roles.specs.EutxoTypes.declared.output_ref.OutputRef.TheVariants.{Made}
use Rattle.roles.specs.EutxoTypes.declared.tx.Tx.{Tx}
use Rattle.roles.specs.EutxoTypes.Ids.{id_of}
use Rattle.roles.specs.EutxoTypes.Parts.{same_ref, Instance, lock_of}
use Rattle.roles.specs.Eutxo.Laws.{FoundIsEnough}
use Rattle.roles.specs.Eutxo.Asked.{Judges}
use Rattle.roles.specs.Eutxo.Blocks.{goes_on_at}
use Rattle.roles.specs.Eutxo.BlockLaws.{BlocksTell}
use Rattle.ledger_laws.specs.Past.{Past, created, is_input_of, is_spent}
use Rattle.ledger_laws.specs.Sound.{IsSound}
use Rattle.ledger_laws.specs.Threads.{blocks_of, next_of, StartsThread, IsMade, thread_end}
use Rattle.ledger_laws.specs.Laws.{StepsStandOnThreads, StepsSpendContracts, StepsNameContracts, ContractsEndThreads, EndsAreUnspent}
use Rattle.ledger_laws.proofs.PlainLaws.{both_false, take_some}
use Rattle.ledger_laws.proofs.PartLaws.{is_contract_so}
use Rattle.ledger_laws.proofs.ReferenceLaws.{unspent_so, unspent_is}
use Rattle.ledger_laws.proofs.AcceptedLaws.{still_there, steps_contract, contract_stepped}
use Rattle.ledger_laws.proofs.MadeLaws.{made_of, each_tells, made_output}
use Rattle.ledger_laws.proofs.SpineLaws.{led, ends_reached, next_so}
use Rattle.ledger_laws.proofs.KernelLemmas.{inputs_stand, opens_end, ends_made}
use Rattle.ledger_laws.proofs.FlowLemmas.{opened, spends_it, flow}

pub steps_stand : {V : Type 0} (j : Judges V) → FoundIsEnough j → BlocksTell j → StepsStandOnThreads j
steps_stand j enough tell named past sound n i tx x o k =
    inputs_stand (next_of j named past) past (flow j enough tell named past sound) n tx x.reference k.accepted (spends_it j enough tell named past sound n i tx x o k)
    (opened j enough tell named past sound n x.reference o k.there k.contract)

pub contracts_are_stepped : {V : Type 0} (j : Judges V) → FoundIsEnough j → StepsSpendContracts j
contracts_are_stepped j enough named past sound n i tx x o k = steps_contract j enough named past sound n i tx x o k

pub steps_are_of_contracts : {V : Type 0} (j : Judges V) → FoundIsEnough j → StepsNameContracts j
steps_are_of_contracts j enough named past sound n i tx x at in_at h = contract_stepped j enough named past sound n i tx x at in_at h

pub contracts_end : {V : Type 0} (j : Judges V) → FoundIsEnough j → BlocksTell j → ContractsEndThreads j
contracts_end j enough tell named past sound q o h c =
    let m = made_of past sound.keys (each_tells j enough named past sound) q o h c in
    (m.0, m.1, m.2, opens_end (next_of j named past) past (flow j enough tell named past sound) q (record { contract = m.0; made = m.1; unspent = (unspent_so past q o h).0 }))

module _ {V : Type 0} (j : Judges V) (enough : FoundIsEnough j) (tell : BlocksTell j) (named : List ℕ → Option V) (past : Past) (sound : IsSound j named past) where
  -- where a thread ends a contract was made
  pub end_made : (r q : OutputRef) → StartsThread past r → thread_end j named past r ≡ Some q → (c : Instance) × IsMade past q c
  end_made r q s h = ends_made (next_of j named past) past (flow j enough tell named past sound) r q s h

  -- which nobody has spent
  made_free : (n : ℕ) (tx : Tx) (i : ℕ) (q : OutputRef) → slice_get past.accepted n ≡ Some tx → q ≡ Made (id_of tx) i → is_spent (drop (suc n) past.accepted) q ≡ false →
      is_spent past.accepted q ≡ false
  made_free n tx i q at name later =
      ap (λ (txs : List Tx). is_spent txs q) (sym (take-append-drop (suc n) past.accepted)) ∙ list_any-append (is_input_of q) (take (suc n) past.accepted) (drop (suc n) past.accepted)
      ∙ both_false (is_spent (take (suc n) past.accepted) q) (is_spent (drop (suc n) past.accepted) q)
      (ap (λ (txs : List Tx). is_spent txs q) (take_some n past.accepted tx at) ∙ ap (is_spent (take n past.accepted ++ tx ∷ [])) name ∙ still_there j enough named past sound n tx at i) later

  end_free : (r q : OutputRef) → thread_end j named past r ≡ Some q → is_spent past.accepted q ≡ false
  end_free r q h =
      let next = next_of j named past in
      elim (led next (Some r) past.accepted q (sym (ends_reached next (Some r) past.accepted) ∙ h)) [
        | inl e ↦ e.1
        | inr l ↦ let g = next_so l.tx (goes_on_at (blocks_of j named past l.tx) l.spends) q l.goes in made_free l.number l.tx g.place q l.at g.name l.free
      ]

pub ends_are_unspent : {V : Type 0} (j : Judges V) → FoundIsEnough j → BlocksTell j → EndsAreUnspent j
ends_are_unspent j enough tell named past sound r q s h =
    let m = end_made j enough tell named past sound r q s h in
    let o = made_output j enough named past sound q m.0 m.1 in
    (o.0, unspent_is past q ∙ ap (λ (b : Bool). cond (not b) (lookup (same_ref q) (created past)) None) (end_free j enough tell named past sound r q h) ∙ o.1, is_contract_so (o.0).lock (lock_of m.0) o.2)
