use Rattle.std.proofs.Common.{refl}
use Rattle.analysis_values.specs.Steps.{IsOther}
use Rattle.analysis_values.proofs.TruthLemmas.{knows_no_more, other_learned}
use Rattle.analysis_values.proofs.truths.distinguished.Goals as goal

pub returns-in_ok-distinguish-in-Some : goal.returns-in_ok-distinguish-in-Some
returns-in_ok-distinguish-in-Some c = other_learned c.args.symbols c.args.left.now c.args.right.now c.distinguish.new.self c.in-Some.d (rw c.in-Some.is at c.in_ok-difference.ensures) c.in_ok-distinguish-in-Some.ensures

pub returns-in-None : goal.returns-in-None
returns-in-None c = knows_no_more c.args.symbols c.args.left.now c.args.right.now IsOther c.args.symbols refl
