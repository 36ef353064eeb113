use Rattle.std.proofs.Common.{take, map}
use Rattle.json_write_contracts.specs.Tokens.{Adds}
use Rattle.json_write_contracts.proofs.ListedLaws.{front}
use Rattle.json_write_outcomes.specs.Each.{Each}
use Rattle.json_write_outcomes.proofs.lists.put_list.Given as goal

-- the items so far are written, and what is known of each is known
abbrev pub invariant-loop-item : goal.invariant-loop-item
invariant-loop-item g l =
    Adds l.initial.out l.out (front (map g.T.PutItem.json (take l.item-index l.items))) × Each g.T.PutItem.known (take l.item-index l.items)
