use Rattle.std.proofs.Common.{take}
use Rattle.builder_spec.specs.Holding.{AreBundles}
use Rattle.coin_selection.proofs.sums.see_all.Given as goal

abbrev pub invariant-loop-item : goal.invariant-loop-item
invariant-loop-item g l = AreBundles g.A.Holds.held (take l.item-index l.items)
