-- Each party that acts in an accepted step is authorised.
use Rattle.std.proofs.Common.{◌≡◌, ℕ, true, List, sym, ◌∙◌, ap, Option, Some}
use Rattle.std.specs.List.{slice_get}
use Rattle.roles.specs.EutxoTypes.declared.output.Output.{Output}
use Rattle.roles.specs.EutxoTypes.declared.spend.Spend.{Spend}
use Rattle.roles.specs.EutxoTypes.declared.tx.Tx.{Tx}
use Rattle.roles.specs.Eutxo.Laws.{FoundIsEnough}
use Rattle.roles.specs.Eutxo.Asked.{Stepping}
use Rattle.roles.specs.Eutxo.Blocks.{answer_by, step_asked, fault_in}
use Rattle.roles.specs.declared.published.Published.{Published}
use Rattle.roles.specs.Terms.{terms_of}
use Rattle.roles.specs.Steps.{marlowe}
use Rattle.roles.specs.EutxoTypes.Parts.{is_step}
use Rattle.ledger_laws.specs.Past.{Past, before, unspent_at}
use Rattle.ledger_laws.specs.Sound.{IsSound}
use Rattle.ledger_laws.specs.Laws.{IsAuthorised, PartiesAreAuthorised}
use Rattle.ledger_laws.proofs.PartLaws.{contract_of_lock}
use Rattle.ledger_laws.proofs.PairedLemmas.{input_at, step_with}
use Rattle.ledger_laws.proofs.AcceptedLaws.{spent_at, tells_at, step_input, input_published, read_at, block_at}
use Rattle.ledger_laws.proofs.LaidOutLemmas.{stepped_so, authorised_so}

module _ (enough : FoundIsEnough marlowe) (named : List ℕ → Option Published) (past : Past) (sound : IsSound marlowe named past) (n : ℕ) (tx : Tx) (at : slice_get past.accepted n ≡ Some tx) where
  abbrev spent : List (Spend × Output)
  spent = (spent_at marlowe enough named past sound n tx at).ys

  allowed : (i : ℕ) (x : Spend × Output) → slice_get spent i ≡ Some x → is_step x.0.redeemer ≡ true → IsAuthorised named tx spent x
  allowed i x e h =
      let p = input_at (unspent_at (before past n)) i x tx.inputs spent (spent_at marlowe enough named past sound n tx at).pairs e in
      let k = step_input marlowe enough named past sound n i tx x.0 x.1 at p.0 p.1 h in
      let c = contract_of_lock x.1.lock k.contract in
      let v = input_published marlowe enough named past sound n i tx x.0 x.1 c.0 k c.1 in
      let r = read_at marlowe enough named past sound n i tx x.0 x.1 c.0 at k c.1 in
      let step = step_with c.0 x.0 r.datum in
      let b = block_at marlowe enough named past sound n tx at r.number step r.step in
      let s : Stepping = step_asked tx spent b.«from» step in
      let z = stepped_so (terms_of v.0) s (tells_at marlowe enough named past sound n tx at) (ap (λ (w : Option Published). fault_in (answer_by marlowe w s)) (sym v.1) ∙ b.passes) in
      record { lock = c.0; contract = c.1; object = v.0; named = v.1; parties = authorised_so (terms_of v.0) s z }

pub parties_are_authorised : FoundIsEnough marlowe → PartiesAreAuthorised
parties_are_authorised enough named past sound n tx at =
    (spent enough named past sound n tx at, (spent_at marlowe enough named past sound n tx at).there, allowed enough named past sound n tx at)
