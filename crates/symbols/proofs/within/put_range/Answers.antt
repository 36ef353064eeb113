use Rattle.symbols.specs.Within.{LieIn}
use Rattle.symbols.proofs.WithinLemmas.{hold_itself, hold_then, hold_at}
use Rattle.symbols.proofs.within.put_range.Goals as goal

pub loop-symbol-init : goal.loop-symbol-init
loop-symbol-init c = hold_itself (λ r. LieIn r c.args.symbols.now c.args.range) c.args.bounds.now

pub loop-symbol-preserved : goal.loop-symbol-preserved
loop-symbol-preserved c =
    hold_then (λ r. LieIn r c.args.symbols.now c.args.range) c.args.bounds.now c.loop-symbol.bounds c.narrow_to.new.bounds c.loop-symbol.invariant
    (hold_at c.loop-symbol.bounds c.narrow_to.new.bounds c.args.symbols.now c.args.range c.loop-symbol.symbol-index 0 c.loop-symbol-test.true c.in_ok-narrow_to.ensures)
