use Rattle.std.proofs.Common.{ℕ, List, sym, ◌∙◌, ap}
use Rattle.ledger_views.specs.Ledger.declared.call.Reply.TheVariants as replies
use Rattle.ledger_views.specs.LedgerSpec.Replay.{world}
use Rattle.ledger_views.specs.LedgerSpec.Calls.{submit_reply}
use Rattle.ledger_dispatch.proofs.TiedLemmas.{can_be_taken, tied_after}
use Rattle.ledger_dispatch.proofs.dispatch.submit.Goals as goal

pub judge_and_accept-requires : goal.judge_and_accept-requires
judge_and_accept-requires c = can_be_taken c.each_is_judged_alike.ensures c.args.index.now.present (world c.args.kept.now) c.args.tx.now c.requires.tied

pub returns-in-Some-clause-reply : goal.returns-in-Some-clause-reply
returns-in-Some-clause-reply c =
    let alike = c.each_is_judged_alike.ensures c.args.index.now.present (world c.args.kept.now) c.args.tx.now c.requires.tied in
    ap (submit_reply c.args.tx.now) (sym c.in-Some.is ∙ c.in_ok-fault.ensures.fault ∙ alike.fault)

pub returns-in-None-clause-reply : goal.returns-in-None-clause-reply
returns-in-None-clause-reply c =
    let alike = c.each_is_judged_alike.ensures c.args.index.now.present (world c.args.kept.now) c.args.tx.now c.requires.tied in
    ap (λ (id : List ℕ). replies.Accepted id) c.in_ok-fault.ensures.id ∙ ap (submit_reply c.args.tx.now) (sym c.in-None.is ∙ c.in_ok-fault.ensures.fault ∙ alike.fault)

pub returns-in-Some-clause-tied : goal.returns-in-Some-clause-tied
returns-in-Some-clause-tied c =
    let told = c.in_ok-fault.ensures in
    tied_after c.each_is_judged_alike.ensures c.args.index.now.present c.judge_and_accept.new.index.present (world c.args.kept.now) c.args.tx.now c.requires.tied told.fits told.present

pub returns-in-None-clause-tied : goal.returns-in-None-clause-tied
returns-in-None-clause-tied c =
    let told = c.in_ok-fault.ensures in
    tied_after c.each_is_judged_alike.ensures c.args.index.now.present c.judge_and_accept.new.index.present (world c.args.kept.now) c.args.tx.now c.requires.tied told.fits told.present
