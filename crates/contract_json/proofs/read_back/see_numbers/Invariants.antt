use Rattle.std.proofs.Common.{take}
use Rattle.std.specs.List.{All}
use Rattle.contract_json.proofs.read_back.see_numbers.Given as goal

-- of those so far
abbrev pub invariant-loop-entry : goal.invariant-loop-entry
invariant-loop-entry g l = All g.E.Numbered.Bits (take l.entry-index l.entries)
