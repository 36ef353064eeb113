use Rattle.std.proofs.Common.{ℤ, IfOk, subst, w64}
use Rattle.std.proofs.lemmas.Int.{to_z-of_z}
use Rattle.analysis_walk.specs.Conclusions.{TimesOutSo}
use Rattle.analysis_values.specs.Known.{IsDescribed}
use Rattle.analysis.proofs.knowing.ExpressionsKnowledge.time_out.Goals as goal

pub returns : goal.returns
returns c = subst (λ (n : ℤ). IfOk c.time_out.result (TimesOutSo IsDescribed c.args.known n)) (to_z-of_z w64 c.args.timeout c.ranges.timeout) c.time_out.ensures
