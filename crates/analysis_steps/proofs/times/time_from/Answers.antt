use Rattle.analysis_steps.proofs.TimeLemmas.{finds_time_by}
use Rattle.analysis_steps.proofs.times.time_from.Goals as goal

pub returns : goal.returns
returns c = finds_time_by c.args.known.now c.new_time.new.self c.learn_if.new.known c.args.before.now c.in_ok-time.time c.in_ok-time.ensures c.in_ok-learn_if.ensures.symbols c.learn_if.ensures.view
