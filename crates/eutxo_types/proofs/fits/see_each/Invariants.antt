use Rattle.std.proofs.Common.{take}
use Rattle.std.specs.List.{All}
use Rattle.eutxo_types.proofs.fits.see_each.Given as goal

abbrev pub invariant-loop-item : goal.invariant-loop-item
invariant-loop-item g l = All g.T.InMemory.Fits (take l.item-index l.items)
