use Rattle.std.proofs.Common.{◌≡◌, ◌∙◌, ◌++◌, ◌∷◌, [], ◌||◌, ℕ, List, refl, sym, subst, ap}
use Rattle.std.specs.List.{list_any}
use Rattle.std.proofs.lemmas.Result.{on_ok_weaker}
use Rattle.ledger_spec.specs.EutxoTypes.declared.output_ref.OutputRef.TheVariants.{Made}
use Rattle.ledger_spec.specs.EutxoTypes.declared.spend.Spend.{Spend}
use Rattle.ledger_spec.specs.EutxoTypes.Parts.{same_ref}
use Rattle.ledger_spec.specs.Eutxo.Blocks.{places_in}
use Rattle.ledger_spec.specs.LedgerLaws.Past.{with_references}
use Rattle.chain_index.specs.Contents.{blocks_in, is_among}
use Rattle.chain_index.specs.PartsSupport.{Parts, contents_in}
use Rattle.chain_index.specs.Moves.{moves_to}
use Rattle.chain_index.specs.NamingSupport.{slots}
use Rattle.chain_index.proofs.OutputLemmas.{made_named}
use Rattle.chain_index.proofs.PartsLemmas.{takes_after}
use Rattle.chain_index.proofs.parts.Parts.add.Goals as goal

pub returns-clause-ok : goal.returns-clause-ok
returns-clause-ok c =
    let s = c.self.inside in
    let tx = c.args.tx.now in
    let places = subst (λ (p : Parts). c.args.places.now ≡ places_in (blocks_in (contents_in p) tx)) (sym c.self.view_is) c.requires.places in
    on_ok_weaker c.put_id.result
    (λ e. takes_after c.self.view_is (record {
      entries =
          c.in_ok-put_all.ensures.ok ∙ (λ i. s.outputs ++ slots (with_references (made_named c.args.id.now i) 0 (c.as_slice.ensures i)))
          ∙ ap (λ (id : List ℕ). s.outputs ++ slots (with_references (λ j. Made id j) 0 tx.outputs)) c.requires.named;
      leaving = λ r. c.in_ok-leave_all.ensures.ok r ∙ ap (λ (xs : List Spend). list_any (λ x. same_ref x.reference r) xs || is_among s.leaving.keys r) c.as_slice-2.ensures;
      ids = e ∙ ap (λ (id : List ℕ). s.ids.keys ++ id ∷ []) c.requires.named;
      objects = refl;
      moves = c.in_ok-move_all.ensures.ok ∙ (λ i. s.moves.entries ++ moves_to (c.len-number.ensures.len i) tx tx.inputs (places i));
      starts = c.in_ok-start_all.ensures.ok;
      datums = c.in_ok-bring_all.ensures.ok;
    }))
    c.put_id.ensures.ok
