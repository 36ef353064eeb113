use Rattle.std.proofs.Common.{sym, subst}
use Rattle.std.proofs.lemmas.Result.{on_ok_weaker}
use Rattle.ledger_views.specs.Ledger.declared.call.Call.{Call}
use Rattle.ledger_views.specs.LedgerSpec.Replay.{world}
use Rattle.ledger_views.specs.LedgerKept.Kept.{IsIndexOf, world_with}
use Rattle.ledger_dispatch.proofs.TiedLemmas.{advanced, submitted, enqueued, rounded}
use Rattle.ledger_dispatch.proofs.dispatch.answer_or_grow.Goals as goal

pub returns-in-Publish-clause-tied : goal.returns-in-Publish-clause-tied
returns-in-Publish-clause-tied c =
    let w = world c.args.kept.now in
    let next = c.publish_as.new.index.present in
    on_ok_weaker c.publish_as.result (λ tied. subst (λ (k : Call). IsIndexOf next (world_with w k)) (sym c.in-Publish.is) (tied w c.requires.tied)) c.publish_as.ensures.tied

pub returns-in-Advance-clause-tied : goal.returns-in-Advance-clause-tied
returns-in-Advance-clause-tied c =
    let w = world c.args.kept.now in
    subst (λ (k : Call). IsIndexOf c.args.index.now.present (world_with w k)) (sym c.in-Advance.is) (advanced c.args.index.now.present w c.in-Advance.tick c.requires.tied)

pub returns-in-Submit-clause-tied : goal.returns-in-Submit-clause-tied
returns-in-Submit-clause-tied c =
    let w = world c.args.kept.now in
    let next = c.submit.new.index.present in
    on_ok_weaker c.submit.result (λ tied. subst (λ (k : Call). IsIndexOf next (world_with w k)) (sym c.in-Submit.is) (submitted next w c.in-Submit.tx tied)) c.submit.ensures.tied

pub returns-in-Enqueue-clause-tied : goal.returns-in-Enqueue-clause-tied
returns-in-Enqueue-clause-tied c =
    let w = world c.args.kept.now in
    subst (λ (k : Call). IsIndexOf c.args.index.now.present (world_with w k)) (sym c.in-Enqueue.is) (enqueued c.args.index.now.present w c.in-Enqueue.field-0 c.requires.tied)

pub returns-in_ok-round-in-Round-clause-tied : goal.returns-in_ok-round-in-Round-clause-tied
returns-in_ok-round-in-Round-clause-tied c =
    let w = world c.args.kept.now in
    let next = c.round.new.index.present in
    subst (λ (k : Call). IsIndexOf next (world_with w k)) (sym c.in-Round.is) (rounded next w c.in-Round.count c.in_ok-round-in-Round.ensures.tied)
