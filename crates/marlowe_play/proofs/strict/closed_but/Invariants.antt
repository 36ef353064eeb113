use Rattle.std.proofs.Common.{◌≡◌, drop, map}
use Rattle.marlowe_play.specs.Strict.{closed_but}
use Rattle.marlowe_play.proofs.strict.closed_but.Given as goal

abbrev pub invariant-loop-line : goal.invariant-loop-line
invariant-loop-line l =
    let names = map (λ s. s.now) l.kept_open in closed_but names (drop l.line-index l.lines) ≡ closed_but names l.lines
