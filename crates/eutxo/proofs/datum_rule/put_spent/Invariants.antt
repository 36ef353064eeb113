use Rattle.std.proofs.Common.{◌≡◌, ◌++◌, drop}
use Rattle.std.specs.Prelude.{map}
use Rattle.eutxo.specs.Rules.{digests_in}
use Rattle.eutxo.proofs.datum_rule.put_spent.Given as goal

abbrev pub invariant-loop-x : goal.invariant-loop-x
invariant-loop-x l = l.digests.items ++ digests_in (map (λ x. x.1) (drop l.x-index l.spent)) ≡ l.fn.digests.items ++ digests_in (map (λ x. x.1) l.spent)
