use Rattle.std.proofs.Common.{◌≡◌, ◌++◌, drop, string_bytes}
use Rattle.play_objects.specs.HoldingObjects.{holding_objects}
use Rattle.play_objects.proofs.holdings.holding_objects.Given as goal

abbrev pub invariant-loop-holding : goal.invariant-loop-holding
invariant-loop-holding l = string_bytes l.out ++ holding_objects l.threads (drop l.holding-index l.holdings) ≡ holding_objects l.threads l.holdings
