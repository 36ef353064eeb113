use Rattle.std.proofs.Common.{List, ◌∷◌, ◌++◌, [], sym, ◌∙◌, ap, map, take}
use Rattle.ledger_views.specs.LedgerSpec.Replay.{Pending, pending_entry, world}
use Rattle.ledger_views.specs.LedgerSpec.Views.{with_found}
use Rattle.ledger_dispatch.proofs.RoundLemmas.{mapped_more}
use Rattle.ledger_dispatch.proofs.questions.front.Goals as goal

pub loop-i-preserved : goal.loop-i-preserved
loop-i-preserved c =
    let w = world c.args.kept.now in
    let i = c.loop-i.i in
    let found = λ (p : Pending). with_found w p.1 in
    let p : Pending = pending_entry c.pending_at.result.0 c.pending_at.result.1.now in
    c.in_ok-push.ensures.items
    ∙ ap (λ (l : List _). l ++ c.in_ok-job.job ∷ []) c.loop-i.invariant
    ∙ ap (λ (x : _). map found (take i w.replay.pending) ++ x ∷ []) c.in_ok-job.ensures
    ∙ sym (mapped_more found w.replay.pending i p c.pending_at.ensures)
