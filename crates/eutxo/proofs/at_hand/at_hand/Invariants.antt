use Rattle.std.proofs.Common.{All, take}
use Rattle.eutxo.specs.Checks.{IsOf}
use Rattle.eutxo.proofs.at_hand.at_hand.Given as goal

abbrev pub invariant-loop-checked : goal.invariant-loop-checked
invariant-loop-checked g l = All (λ c. IsOf g.V.PartialEq.eq l.tx l.found c → ⊥) (take l.checked-index l.cache)
