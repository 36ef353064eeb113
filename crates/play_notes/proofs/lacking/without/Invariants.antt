use Rattle.std.proofs.Common.{◌≡◌, drop}
use Rattle.play_notes.specs.Lacking.{without}
use Rattle.play_notes.proofs.lacking.without.Given as goal

abbrev pub invariant-loop-unspent : goal.invariant-loop-unspent
invariant-loop-unspent l = without l.token l.rest (drop l.unspent-index l.offered) ≡ without l.token l.fn.total l.offered
