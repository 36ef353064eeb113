use Rattle.std.proofs.Common.{take}
use Rattle.std.specs.List.{All}
use Rattle.json_write_outcomes.specs.Each.{HasBytes}
use Rattle.contract_json.proofs.read_back.see_symbols.Given as goal

-- of those so far
abbrev pub invariant-loop-entry : goal.invariant-loop-entry
invariant-loop-entry l = All HasBytes (take l.entry-index l.accounts)
