use Rattle.symbols.specs.Symbols.{AreResults}
use Rattle.symbols.specs.Held.{operations_of}
use Rattle.symbols.proofs.WithinLemmas.{hold_itself, hold_named}
use Rattle.symbols.proofs.within.put_result_at.Goals as goal

pub returns-then-has_both_ends : goal.returns-then-has_both_ends
returns-then-has_both_ends c = hold_itself (λ r. AreResults r (operations_of c.args.operations.now)) c.args.bounds.now

pub returns : goal.returns
returns c =
    hold_named c.args.bounds.now c.put_result.new.bounds c.args.operations.now c.args.at c.index-operations-at.result c.requires c.index-operations-at.is c.in_ok-put_result.ensures
