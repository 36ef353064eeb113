use Rattle.std.proofs.Common.{◌-ℤ◌}
use Rattle.std.proofs.lemmas.Result.{IfOk-weaker}
use Rattle.analysis_values.proofs.StepLemmas.{stands_of, any_of}
use Rattle.analysis_values.proofs.sums.difference.Goals as goal

pub returns-in-Some : goal.returns-in-Some
returns-in-Some c = stands_of ◌-ℤ◌ c.args.symbols.now c.args.left.now c.args.right.now c.in-Some.number (rw c.in-Some.is at c.in_ok-exact.ensures)

pub returns-in-None : goal.returns-in-None
returns-in-None c = IfOk-weaker c.unknown.result _ _ (λ e h. any_of ◌-ℤ◌ c.args.symbols.now c.unknown.new.self c.args.left.now c.args.right.now e h) c.unknown.ensures.any
