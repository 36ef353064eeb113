use Rattle.std.proofs.Common.{◌≡◌, ◌++◌, take}
use Rattle.std.specs.List.{All, flat_map}
use Rattle.contract_bytes.proofs.spell.put_items.Given as goal

-- the items so far stand in the output, and fit
abbrev pub invariant-loop-item : goal.invariant-loop-item
invariant-loop-item g l = (l.out.items ≡ l.fn.out.items ++ flat_map g.T.Spell.spelling (take l.item-index l.items)) × All g.T.Spell.Fits (take l.item-index l.items)
