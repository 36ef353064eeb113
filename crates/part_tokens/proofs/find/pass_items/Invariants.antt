use Rattle.std.proofs.Common.{◌≡◌, ◌-◌}
use Rattle.part_tokens.specs.PartTokens.{behind_items}
use Rattle.part_tokens.proofs.find.pass_items.Given as goal

-- so many are left
abbrev pub invariant-loop-i : goal.invariant-loop-i
invariant-loop-i l = behind_items l.depth l.count l.initial.reader ≡ behind_items l.depth (l.count - l.i) l.reader
