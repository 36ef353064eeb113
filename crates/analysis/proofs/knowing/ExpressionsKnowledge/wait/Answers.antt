use Rattle.std.proofs.Common.{ℤ, IfOk, subst, w64}
use Rattle.std.proofs.lemmas.Int.{to_z-of_z}
use Rattle.analysis_walk.specs.Conclusions.{WaitsSo}
use Rattle.analysis_values.specs.Known.{IsDescribed}
use Rattle.analysis.proofs.knowing.ExpressionsKnowledge.wait.Goals as goal

pub returns : goal.returns
returns c = subst (λ (n : ℤ). IfOk c.wait.result (WaitsSo IsDescribed c.args.known n)) (to_z-of_z w64 c.args.timeout c.ranges.timeout) c.wait.ensures
