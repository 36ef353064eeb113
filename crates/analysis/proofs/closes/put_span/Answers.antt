use Rattle.std.proofs.Common.{sym, ◌∙◌}
use Rattle.analysis.proofs.ClosesLemmas.{puts_none, puts_one}
use Rattle.analysis.proofs.closes.put_span.Goals as goal

pub returns-then-there : goal.returns-then-there
returns-then-there c = puts_none c.args.known.now c.args.account.now c.args.all.now (sym c.is_there-there.ensures ∙ c.if-there.true)

pub returns : goal.returns
returns c = puts_one c.args.known.now c.args.account.now c.in_ok-span.span c.args.all.now c.set.new.self c.in_ok-set.ensures.ok c.in_ok-span.ensures
