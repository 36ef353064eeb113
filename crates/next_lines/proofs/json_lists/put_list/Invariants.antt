use Rattle.std.proofs.Common.{take, map}
use Rattle.json_write_contracts.specs.Tokens.{Adds}
use Rattle.json_write_contracts.proofs.ListedLaws.{front}
use Rattle.next_lines.proofs.json_lists.put_list.Given as goal

-- the items so far are written
abbrev pub invariant-loop-item : goal.invariant-loop-item
invariant-loop-item g l = Adds l.initial.out l.out (front (map g.T.Listed.json (take l.item-index l.items)))
