use Rattle.std.proofs.Common.{◌∙◌, ◌||◌, ◌&&◌, List, ap}
use Rattle.std.proofs.lemmas.Result.{on_ok_weaker}
use Rattle.ledger_spec.specs.EutxoTypes.declared.output_ref.OutputRef.{OutputRef}
use Rattle.chain_index.specs.Contents.{is_among}
use Rattle.chain_index.specs.LocksSupport.{is_named}
use Rattle.chain_index.specs.UnderLocksSupport.{is_shown, passes_at, has_place}
use Rattle.chain_index.proofs.PlaceLemmas.{all_named}
use Rattle.chain_index.proofs.outputs.Outputs.collect.Goals as goal

pub returns : goal.returns
returns c =
    let s = c.self.inside in
    let es = s.entries.entries in
    let n = c.args.name.now in
    let gone = c.args.leaving.now.keys in
    let old = c.args.places.now.keys in
    on_ok_weaker c.collect.result
    (λ h i. h i ∙ ap (λ (rs : List OutputRef). passes_at (λ e. is_among rs e.0 && is_shown (is_named n) gone e) es i || has_place old i) c.refs_under.ensures
    ∙ ap (λ b. b || has_place old i) (all_named s.by_lock.entries n gone es i c.len-len.ensures.unique c.self.invariant) ∙ ap (λ l. passes_at (is_shown (is_named n) gone) l i || has_place old i) c.self.view_is)
    c.collect.ensures
