use Rattle.std.specs.FinMap.{entries}
use Rattle.play_holdings.specs.Holdings.{holder_under}
use Rattle.play_holdings.proofs.TotalLemmas.{above_so}
use Rattle.play_holdings.proofs.one_by_one.put_output.Goals as goal

pub returns-in_err-holder-clause-above : goal.returns-in_err-holder-clause-above
returns-in_err-holder-clause-above c = above_so (holder_under c.args.ends.now c.args.reference.now c.args.output.now.lock) (entries c.args.output.now.amount) c.entries-amounts.ensures.positive

pub returns-clause-above : goal.returns-clause-above
returns-clause-above c = above_so (holder_under c.args.ends.now c.args.reference.now c.args.output.now.lock) (entries c.args.output.now.amount) c.entries-amounts.ensures.positive
