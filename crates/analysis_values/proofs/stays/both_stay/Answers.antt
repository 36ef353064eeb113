use Rattle.std.proofs.Common.{refl}
use Rattle.analysis_values.proofs.TimeLemmas.{above_here, above_written}
use Rattle.analysis_values.proofs.stays.both_stay.Goals as goal

pub returns-then-here : goal.returns-then-here
returns-then-here c = λ h. above_here c.args.times.now c.args.symbols.now c.args.left.now c.args.right.now (c.have_least-here.ensures c.if-here.true)

pub returns : goal.returns
returns c = λ h. above_written c.args.times.now c.args.symbols.now c.in_ok-written.written _ c.args.left.now c.args.right.now refl refl c.in_ok-written.ensures (c.have_least.ensures h)
