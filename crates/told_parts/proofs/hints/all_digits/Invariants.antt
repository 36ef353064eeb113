use Rattle.std.proofs.Common.{◌≡◌, drop}
use Rattle.std.specs.List.{list_all}
use Rattle.told_parts.specs.Lines.{is_digit}
use Rattle.told_parts.proofs.hints.all_digits.Given as goal

-- all so far are digits
abbrev pub invariant-loop-byte : goal.invariant-loop-byte
invariant-loop-byte l = list_all is_digit l.bytes ≡ list_all is_digit (drop l.byte-index l.bytes)
