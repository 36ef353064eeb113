use Rattle.std.proofs.Common.{take, map}
use Rattle.json_write_contracts.specs.Tokens.{Adds}
use Rattle.json_write_contracts.proofs.ListedLaws.{front}
use Rattle.told_parts.specs.Members.{step_json}
use Rattle.told_parts.proofs.members.put_path.Given as goal

-- the steps so far are written
abbrev pub invariant-loop-step : goal.invariant-loop-step
invariant-loop-step l = Adds l.initial.out l.out (front (map step_json (take l.step-index l.path)))
