use Rattle.std.proofs.Common.{◌≡◌, sym, ◌∙◌, ap, subst, Result, Ok}
use Rattle.std.proofs.lemmas.Result.{on_ok_weaker, IfOk-weaker}
use Rattle.ledger_views.specs.Compiler.declared.fault.CompileFault.{CompileFault}
use Rattle.ledger_views.specs.Roles.declared.published.Published.{Published}
use Rattle.ledger_views.specs.LedgerSpec.Replay.{World, publication, with_object, published_at}
use Rattle.ledger_views.specs.LedgerSpec.Calls.{publish_reply, publish_reply_beside}
use Rattle.ledger_views.specs.ChainIndex.Contents.{Contents}
use Rattle.ledger_views.specs.LedgerKept.Kept.{IsIndexOf}
use Rattle.ledger_dispatch.proofs.TiedLemmas.{published_more}
use Rattle.ledger_dispatch.proofs.dispatch.publish_as.Goals as goal

pub returns-in-Ok-clause-reply : goal.returns-in-Ok-clause-reply
returns-in-Ok-clause-reply c =
    let p = c.in-Ok.object in
    let compiled : publication c.args.contract.now c.args.currency.now ≡ Ok p = ap (publication c.args.contract.now) (sym c.in_ok-currency.ensures) ∙ c.in-Ok.ensures.ok in
    IfOk-weaker c.publish_object.result _ _
    (λ reply is. λ (w : World) h. is ∙ ap (λ (d : Contents). publish_reply_beside p (published_at d.published p.id)) h.contents ∙ ap (publish_reply w) (sym compiled))
    c.publish_object.ensures.reply

pub returns-in-Ok-clause-tied : goal.returns-in-Ok-clause-tied
returns-in-Ok-clause-tied c =
    let next = c.publish_object.new.index.present in
    let compiled : publication c.args.contract.now c.args.currency.now ≡ Ok c.in-Ok.object = ap (publication c.args.contract.now) (sym c.in_ok-currency.ensures) ∙ c.in-Ok.ensures.ok in
    on_ok_weaker c.publish_object.result
    (λ n. λ (w : World) h. subst (λ (r : Result Published CompileFault). IsIndexOf next (let v : World = record w { published = with_object w.published r } in v)) (sym compiled)
    (published_more c.publishing_is_sound.ensures c.index_publishes_alike.ensures c.args.index.now.present next w (Ok c.in-Ok.object) h n))
    c.publish_object.ensures.present
