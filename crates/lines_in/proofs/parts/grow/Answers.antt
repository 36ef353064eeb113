use Rattle.std.proofs.Common.{arith}
use Rattle.lines_in.proofs.LinesLemmas.{dropped-now}
use Rattle.lines_in.proofs.parts.grow.Goals as goal

pub returns-then-is_long-clause-lines : goal.returns-then-is_long-clause-lines
returns-then-is_long-clause-lines c =
    dropped-now c.args.is_long c.args.line.now.items c.args.more.now c.clear.new.self.items c.clear.ensures.items (λ no. cc)

pub returns-then-more-len-clause-lines : goal.returns-then-more-len-clause-lines
returns-then-more-len-clause-lines c = dropped-now c.args.is_long c.args.line.now.items c.args.more.now c.clear-then-more-len.new.self.items c.clear-then-more-len.ensures.items (λ no. omega arith)
