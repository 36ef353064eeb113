use Rattle.std.proofs.Common.{◌≡◌, drop}
use Rattle.next_lines.specs.Json.{notify_of}
use Rattle.next_lines.specs.Seen.{seen_cases}
use Rattle.next_lines.proofs.json_inputs.put_notify_of.Given as goal

-- none of the cases so far takes a notify, and nothing was written
abbrev pub invariant-loop-case : goal.invariant-loop-case
invariant-loop-case l = record {
  none : notify_of (seen_cases l.cases) ≡ notify_of (seen_cases (drop l.case-index l.cases));
  nothing : l.out ≡ l.initial.out;
}
