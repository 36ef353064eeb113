use Rattle.std.proofs.Common.{take, map}
use Rattle.json_write_contracts.specs.Tokens.{Adds}
use Rattle.json_write_contracts.proofs.ListedLaws.{front}
use Rattle.analysis_lines.specs.Kept.{kept_token_json}
use Rattle.analysis_lines.proofs.kept.put_each_token.Given as goal

-- the items so far are written
abbrev pub invariant-loop-one : goal.invariant-loop-one
invariant-loop-one l = Adds l.initial.out l.out (front (map kept_token_json (take l.one-index l.kept)))
