use Rattle.std.proofs.Common.{◌≡◌, take}
use Rattle.places.specs.Places.{path_keys}
use Rattle.places.proofs.keys.path_keys.Given as goal

abbrev pub invariant-loop-step : goal.invariant-loop-step
invariant-loop-step l = l.keys.items ≡ path_keys (take l.step-index l.path)
