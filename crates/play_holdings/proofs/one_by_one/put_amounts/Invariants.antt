use Rattle.std.proofs.Common.{◌≡◌, ◌++◌, drop, map}
use Rattle.play_holdings.specs.Holdings.{holding_of}
use Rattle.play_holdings.proofs.one_by_one.put_amounts.Given as goal

abbrev pub invariant-loop-entry : goal.invariant-loop-entry
invariant-loop-entry l = l.rows.items ++ map (holding_of l.holder) (drop l.entry-index l.amounts) ≡ l.fn.rows.items ++ map (holding_of l.holder) l.amounts
