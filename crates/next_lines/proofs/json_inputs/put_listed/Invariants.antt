use Rattle.std.proofs.Common.{take}
use Rattle.std.specs.Prelude.{flat_map}
use Rattle.json_write_contracts.specs.Tokens.{Adds}
use Rattle.json_write_contracts.proofs.ListedLaws.{front}
use Rattle.next_lines.specs.Seen.{seen_case}
use Rattle.next_lines.specs.ListsSupport.{in_list}
use Rattle.next_lines.proofs.json_inputs.put_listed.Given as goal

-- the cases so far are written, where they are in the list
abbrev pub invariant-loop-case : goal.invariant-loop-case
invariant-loop-case l = Adds l.initial.out l.out (front (flat_map (λ c. in_list l.which (seen_case c)) (take l.case-index l.cases)))
