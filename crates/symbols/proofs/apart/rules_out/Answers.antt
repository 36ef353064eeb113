use Rattle.std.proofs.Common.{pos, negsuc}
use Rattle.symbols.proofs.HeldLemmas.{rules_out_by}
use Rattle.symbols.proofs.apart.rules_out.Goals as goal

pub returns-then-same : goal.returns-then-same
returns-then-same c = λ _. rules_out_by c.args.known.now (negsuc 0) c.args.expression.now (c.in_ok-same.ensures c.if-same.true)

pub returns : goal.returns
returns c = λ h. rules_out_by c.args.known.now (pos 1) c.args.expression.now (c.in_ok-opposite.ensures h)
