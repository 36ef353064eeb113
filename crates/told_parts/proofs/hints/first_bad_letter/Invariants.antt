use Rattle.std.proofs.Common.{◌≡◌, None, find, not}
use Rattle.told_parts.specs.Lines.{is_hex}
use Rattle.told_parts.proofs.hints.first_bad_letter.Given as goal

-- all so far are digits
abbrev pub invariant-loop-c : goal.invariant-loop-c
invariant-loop-c l = find (λ c. not (is_hex c)) l.yielded ≡ None
