use Rattle.std.proofs.Common.{◌≡◌, ◌++◌}
use Rattle.reached_bounds.proofs.played.joined.Given as goal

abbrev pub invariant-loop-payment : goal.invariant-loop-payment
invariant-loop-payment l = l.all ≡ l.fn.before ++ l.yielded
