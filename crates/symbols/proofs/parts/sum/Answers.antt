use Rattle.std.proofs.lemmas.Result.{IfOk-weaker}
use Rattle.symbols.proofs.PartLemmas.{sum_exact, sum_unknown}
use Rattle.symbols.proofs.parts.sum.Goals as goal

pub returns-in-Some : goal.returns-in-Some
returns-in-Some c = sum_exact c.args.symbols.now c.args.left.now c.args.right.now c.in-Some.e (rw c.in-Some.is at c.in_ok-exact.ensures)

pub returns-in-None : goal.returns-in-None
returns-in-None c = IfOk-weaker c.unknown.result _ _ (λ e h. sum_unknown c.args.symbols.now c.unknown.new.self c.args.left.now c.args.right.now e h) c.unknown.ensures.any
