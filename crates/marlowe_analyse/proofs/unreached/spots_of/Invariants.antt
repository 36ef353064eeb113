use Rattle.std.specs.Prelude.{All}
use Rattle.marlowe_analyse.specs.RunsSupport.{IsSpotOf}
use Rattle.marlowe_analyse.proofs.unreached.spots_of.Given as goal

abbrev pub invariant-loop-place : goal.invariant-loop-place
invariant-loop-place l = All (IsSpotOf l.places) l.spots.items
