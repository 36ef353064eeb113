use Rattle.std.proofs.Common.{◌≡◌, ◌++◌, map, take}
use Rattle.request_parts.specs.Answered.{comma_for_feed}
use Rattle.request_parts.proofs.answer_lines.put_commas.Given as goal

-- the lines so far stand there, with commas
abbrev pub invariant-loop-byte : goal.invariant-loop-byte
invariant-loop-byte l = l.text.items ≡ l.fn.text.items ++ map comma_for_feed (take l.byte-index l.lines)
