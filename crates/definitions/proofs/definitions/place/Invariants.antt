use Rattle.std.proofs.Common.{◌≡◌, take, None}
use Rattle.definitions.specs.NamedSupport.{place_of}
use Rattle.definitions.proofs.definitions.place.Given as goal

-- the name stands nowhere so far
abbrev pub invariant-loop-place : goal.invariant-loop-place
invariant-loop-place l = place_of l.name (take l.place l.items) ≡ None
