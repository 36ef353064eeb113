use Rattle.std.proofs.Common.{◌≡◌, take}
use Rattle.replay.proofs.playing.behind.Given as goal

-- the place begins with the steps so far
abbrev pub invariant-loop-index : goal.invariant-loop-index
invariant-loop-index l = take l.index l.place ≡ take l.index l.path
