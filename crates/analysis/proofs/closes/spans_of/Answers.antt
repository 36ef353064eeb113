use Rattle.std.proofs.Common.{sym, subst}
use Rattle.analysis.specs.Closes.{ArePaid}
use Rattle.analysis.proofs.ClosesLemmas.{named_more, named_all}
use Rattle.analysis.proofs.closes.spans_of.Goals as goal

pub loop-account-init : goal.loop-account-init
loop-account-init c = record { paid = subst (ArePaid c.args.known.now) (sym c.new-all.ensures) (λ a. tt); named = tt }

pub loop-account-preserved : goal.loop-account-preserved
loop-account-preserved c =
    let h = c.in_ok-put_span.ensures in
    let i = c.loop-account.invariant in
    record {
      paid = h.paid i.paid;
      named = named_more c.args.known.now c.args.names.now c.loop-account.account-index c.account-item.result c.loop-account.all c.put_span.new.all c.loop-account-test.true c.account-item.is i.named h;
    }

pub returns : goal.returns
returns c =
    let i = c.loop-account.invariant in
    record { paid = i.paid; all = named_all c.args.names.now c.loop-account.account-index c.loop-account.all c.loop-account-test.false i.named }
