use Rattle.std.proofs.Common.{rules, ◌∙◌, ap, to_z, of_z, w64}
use Rattle.ledger_views.specs.ChainIndex.Contents.{beginning}
use Rattle.ledger_views.specs.LedgerSpec.Replay.{Course}
use Rattle.chain.proofs.LegalLemmas.{kept_start}
use Rattle.chain.proofs.chain.Chain.starting.Goals as goal

pub invariant_of-result : goal.invariant_of-result
invariant_of-result c =
    let course : Course = record { genesis = c.args.outputs; first_tick = to_z w64 (of_z w64 c.args.first_tick); entries = c.new-2.result.items } in
    let none = c.new-2.ensures.items in
    kept_start c.starting_is_sound.ensures _ _ course none (c.new-3.ensures course (search rules) none) (c.in_ok-index.ensures ∙ ap beginning c.as_slice.ensures) c.requires.keys c.requires.sums
