use Rattle.std.proofs.Common.{◌≡◌, take}
use Rattle.told_parts.proofs.pieces.copied.Given as goal

abbrev pub invariant-loop-step : goal.invariant-loop-step
invariant-loop-step l = l.out.items ≡ take l.step-index l.path
