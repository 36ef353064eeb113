use Rattle.std.proofs.Common.{◌≡◌, ◌++◌, drop}
use Rattle.parties.specs.Plays.{parts_of}
use Rattle.parties.proofs.building.parts_of.Given as goal

-- those so far and those of what is left are those of all
abbrev pub invariant-loop-i : goal.invariant-loop-i
invariant-loop-i l = l.parts.items ++ parts_of (drop l.i l.steps) (drop l.i l.looks) ≡ parts_of l.steps l.looks
