use Rattle.std.proofs.Common.{◌∙◌}
use Rattle.std.proofs.lemmas.Result.{IfOk-weaker}
use Rattle.ledger_kept.specs.Roles.Steps.{marlowe}
use Rattle.ledger_kept.specs.LedgerLaws.Threads.{thread}
use Rattle.ledger_kept.specs.LedgerSpec.Replay.{past_of, published_at, world}
use Rattle.ledger_kept.specs.ChainIndex.Laws.{link_at}
use Rattle.ledger_views.proofs.LinkLemmas.{each_there, all_same, along_thread}
use Rattle.ledger_views.proofs.links.thread.Goals as goal

pub links_at-requires : goal.links_at-requires
links_at-requires c =
    let w = world c.args.kept.now in
    let steps = c.as_slice.ensures ∙ c.in_ok-steps.ensures in
    let along = along_thread c.index_follows_threads.ensures.threads c.args.index.now.present w c.requires.tied c.args.start.now c.requires.made c.as_slice.result.now steps in
    each_there (link_at w.replay.accepted) c.as_slice.result.now (thread marlowe (published_at w.published) (past_of w) c.args.start.now) along

pub returns : goal.returns
returns c =
    let w = world c.args.kept.now in
    let steps = c.as_slice.ensures ∙ c.in_ok-steps.ensures in
    let along = along_thread c.index_follows_threads.ensures.threads c.args.index.now.present w c.requires.tied c.args.start.now c.requires.made c.as_slice.result.now steps in
    IfOk-weaker c.links_at.result _ _ (λ links is. all_same links.items (thread marlowe (published_at w.published) (past_of w) c.args.start.now) (is ∙ along)) c.links_at.ensures
