use Rattle.analysis_values.proofs.TruthLemmas.{either_one, either_both}
use Rattle.analysis_values.proofs.truths.joined_with.Goals as goal

pub returns-in-None : goal.returns-in-None
returns-in-None c = rw c.in-None.is (either_one c.args.symbols.now c.args.one)

pub returns-in_ok-both-in-Some : goal.returns-in_ok-both-in-Some
returns-in_ok-both-in-Some c = rw c.in-Some.is (either_both c.args.symbols.now c.args.one c.in-Some.another c.in_ok-both-in-Some.both c.in_ok-both-in-Some.ensures)
