use Rattle.std.proofs.Common.{◌≡◌, drop, map}
use Rattle.marlowe_play.specs.Strict.{is_among}
use Rattle.marlowe_play.proofs.strict.is_among.Given as goal

abbrev pub invariant-loop-other : goal.invariant-loop-other
invariant-loop-other l = is_among l.name (drop l.other-index (map (λ s. s.now) l.names)) ≡ is_among l.name (map (λ s. s.now) l.names)
