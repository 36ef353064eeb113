use Rattle.next_lines.proofs.ListedLemmas.{notify_at, no_notify}
use Rattle.next_lines.proofs.json_inputs.put_notify_of.Goals as goal

pub returns-in-Notify : goal.returns-in-Notify
returns-in-Notify c =
    notify_at c.put_notify.result c.args.out.now c.loop-case.out c.put_notify.new.out c.args.cases.now c.loop-case.case-index c.case-item.result c.in-Notify.index c.in-Notify.refused c.loop-case-test.true c.case-item.is c.in-Notify.is
    c.loop-case.invariant.none c.loop-case.invariant.nothing c.put_notify.ensures

pub returns : goal.returns
returns c = no_notify c.null.result c.args.out.now c.loop-case.out c.null.new.self c.args.cases.now c.loop-case.case-index c.loop-case-test.false c.loop-case.invariant.none c.loop-case.invariant.nothing c.null.ensures
