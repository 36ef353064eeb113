use Rattle.std.proofs.Common.{◌∙◌, ◌++◌, ap, sym}
use Rattle.ledger_spec.proofs.FromLedgerLaws.PlainLaws.{no_more}
use Rattle.chain_index.specs.UnderLocksSupport.{rows_at}
use Rattle.chain_index.proofs.ShownLemmas.{no_places, next_row}
use Rattle.chain_index.proofs.under_locks.show_all.Goals as goal

pub loop-place-preserved : goal.loop-place-preserved
loop-place-preserved c =
    next_row c.args.outputs.now c.loop-place.shown c.show.new.shown (rows_at c.args.outputs.now c.args.places.keys) c.loop-place.left.keys _ c.in-Some.place c.in-Some.ensures.removal c.in_ok-show.ensures c.loop-place.invariant

pub returns-clause-rows : goal.returns-clause-rows
returns-clause-rows c =
    let told = c.loop-place.shown in
    sym (no_more told) ∙ ap (λ ks. told ++ rows_at c.args.outputs.now ks) (sym (no_places c.loop-place.left.keys c.in_default.ensures.variant.1)) ∙ c.loop-place.invariant
