use Rattle.std.proofs.Common.{◌∙◌, ◌||◌, ◌&&◌, List, ap, sym}
use Rattle.std.specs.List.{slice_get}
use Rattle.std.proofs.lemmas.List.{drop_all}
use Rattle.ledger_spec.specs.EutxoTypes.declared.output_ref.OutputRef.{OutputRef}
use Rattle.chain_index.specs.Contents.{is_among}
use Rattle.chain_index.specs.LocksSupport.{is_named}
use Rattle.chain_index.specs.UnderLocksSupport.{is_shown, passes_at, has_place}
use Rattle.chain_index.proofs.PlaceLemmas.{next_named, none_named}
use Rattle.chain_index.proofs.places.collect.Goals as goal

pub loop-reference-preserved : goal.loop-reference-preserved
loop-reference-preserved c i =
    let old = c.loop-reference in
    old.invariant i
    ∙ next_named (is_shown (is_named c.args.name.now) c.args.leaving.now.keys) c.args.references.now old.reference-index _ c.args.slots.now.entries i (has_place old.places.keys i)
    (has_place c.add_place.new.places.keys i) c.loop-reference-test.true (c.in_ok-add_place.ensures i ∙ ap (λ b. b || has_place old.places.keys i) (c.place_of.ensures i))

pub returns : goal.returns
returns c i =
    let es = c.args.slots.now.entries in
    let left = c.loop-reference in
    let test = is_shown (is_named c.args.name.now) c.args.leaving.now.keys in
    sym (left.invariant i
    ∙ ap (λ (rs : List OutputRef). passes_at (λ e. is_among rs e.0 && test e) es i || has_place left.places.keys i) (drop_all left.reference-index c.args.references.now c.loop-reference-test.false)
    ∙ none_named test (slice_get es i) (has_place left.places.keys i))
