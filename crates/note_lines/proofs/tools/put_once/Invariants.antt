use Rattle.std.proofs.Common.{take, map}
use Rattle.json_write_contracts.specs.Tokens.{Adds}
use Rattle.json_write_contracts.proofs.ListedLaws.{front}
use Rattle.json_write_contracts.specs.WrittenNames.{party_json}
use Rattle.note_lines.proofs.tools.put_once.Given as goal

-- the items so far are written
abbrev pub invariant-loop-party : goal.invariant-loop-party
invariant-loop-party l = Adds l.initial.out l.out (front (map party_json (take l.party-index l.once)))
