use Rattle.std.proofs.Common.{◌≡◌, take}
use Rattle.play_holdings.proofs.ends.Ends.of.Given as goal

abbrev pub invariant-loop-end : goal.invariant-loop-end
invariant-loop-end l = l.ends ≡ take l.end-index l.all
