use Rattle.std.proofs.Common.{◌∙◌}
use Rattle.analysis_steps.proofs.TimeLemmas.{later_so}
use Rattle.analysis_steps.proofs.times.later.Goals as goal

pub returns : goal.returns
returns c =
    later_so c.args.known c.time_from.new.known c.time_from-2.new.known c.set_interval.new.self c.in_ok-before.before c.in_ok-start.start c.in_ok-end.end (c.in_ok-before.ensures ∙ c.start.ensures)
    c.in_ok-start.ensures c.in_ok-end.ensures c.set_interval.ensures
