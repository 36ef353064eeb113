use Rattle.std.proofs.Common.{◌≡◌, None, drop, option_map}
use Rattle.explanations.specs.Indexes.{last_from}
use Rattle.explanations.proofs.indexes.last_member.Given as goal

-- what is found in the rest, behind what was found so far
abbrev pub invariant-loop-index : goal.invariant-loop-index
invariant-loop-index l =
    last_from l.word 0 l.members None ≡ last_from l.word l.index (drop l.index l.members) (option_map (λ found. (found.0, found.1.now)) l.found)
