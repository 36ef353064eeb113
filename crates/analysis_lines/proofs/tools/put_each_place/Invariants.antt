use Rattle.std.proofs.Common.{take, map}
use Rattle.places.specs.Texts.{place_json}
use Rattle.json_write_contracts.specs.Tokens.{Adds}
use Rattle.json_write_contracts.proofs.ListedLaws.{front}
use Rattle.analysis_lines.proofs.tools.put_each_place.Given as goal

-- the items so far are written
abbrev pub invariant-loop-keys : goal.invariant-loop-keys
invariant-loop-keys l = Adds l.initial.out l.out (front (map place_json (take l.keys-index l.places)))
