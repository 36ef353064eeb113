use Rattle.std.proofs.Common.{◌≡◌, map}
use Rattle.marlowe_analyse.specs.RunsSupport.{without_least}
use Rattle.marlowe_analyse.proofs.ranges.without_leasts.Given as goal

abbrev pub invariant-loop-range : goal.invariant-loop-range
invariant-loop-range l = l.all.items ≡ map without_least l.yielded
