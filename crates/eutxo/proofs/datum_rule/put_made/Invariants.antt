use Rattle.std.proofs.Common.{◌≡◌, ◌++◌, drop}
use Rattle.eutxo.specs.Rules.{digests_in}
use Rattle.eutxo.proofs.datum_rule.put_made.Given as goal

abbrev pub invariant-loop-output : goal.invariant-loop-output
invariant-loop-output l = l.digests.items ++ digests_in (drop l.output-index l.outputs) ≡ l.fn.digests.items ++ digests_in l.outputs
