use Rattle.std.proofs.Common.{◌≡◌, ◌++◌, drop}
use Rattle.eutxo.specs.ChangesSupport.{changes_of}
use Rattle.eutxo.proofs.changes.put_all.Given as goal

abbrev pub invariant-loop-item : goal.invariant-loop-item
invariant-loop-item g l = l.changes.items ++ changes_of g.A.Holds.held l.made (drop l.item-index l.items) ≡ l.fn.changes.items ++ changes_of g.A.Holds.held l.made l.items
