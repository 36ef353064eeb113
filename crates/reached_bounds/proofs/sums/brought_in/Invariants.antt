use Rattle.std.proofs.Common.{◌≡◌, ◌+ℤ◌, drop}
use Rattle.losses.specs.Losses.{brought_by}
use Rattle.reached_bounds.proofs.sums.brought_in.Given as goal

abbrev pub invariant-loop-input : goal.invariant-loop-input
invariant-loop-input l = brought_by l.party l.token l.inputs ≡ l.sum +ℤ brought_by l.party l.token (drop l.input-index l.inputs)
