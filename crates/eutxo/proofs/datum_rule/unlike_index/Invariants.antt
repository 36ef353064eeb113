use Rattle.std.proofs.Common.{◌≡◌, drop}
use Rattle.eutxo.specs.Rules.{first_unlike}
use Rattle.eutxo.proofs.datum_rule.unlike_index.Given as goal

abbrev pub invariant-loop-i : goal.invariant-loop-i
invariant-loop-i l = first_unlike 0 l.digests l.datums ≡ first_unlike l.i (drop l.i l.digests) (drop l.i l.datums)
