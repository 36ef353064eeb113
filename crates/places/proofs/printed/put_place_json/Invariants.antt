use Rattle.std.proofs.Common.{take, map}
use Rattle.json_write_contracts.specs.Tokens.{Adds}
use Rattle.json_write_contracts.proofs.ListedLaws.{front}
use Rattle.places.specs.Texts.{key_json}
use Rattle.places.proofs.printed.put_place_json.Given as goal

-- the items so far are written
abbrev pub invariant-loop-key : goal.invariant-loop-key
invariant-loop-key l = Adds l.initial.out l.out (front (map key_json (take l.key-index l.place)))
