use Rattle.symbols.specs.Symbols.{AreResults}
use Rattle.symbols.specs.Held.{operations_of}
use Rattle.symbols.proofs.WithinLemmas.{hold_itself, hold_then}
use Rattle.symbols.proofs.within.put_results.Goals as goal

pub loop-at-init : goal.loop-at-init
loop-at-init c = hold_itself (λ r. AreResults r (operations_of c.args.operations.now)) c.args.bounds.now

pub loop-at-preserved : goal.loop-at-preserved
loop-at-preserved c =
    hold_then (λ r. AreResults r (operations_of c.args.operations.now)) c.args.bounds.now c.loop-at.bounds c.put_result_at.new.bounds c.loop-at.invariant c.in_ok-put_result_at.ensures
