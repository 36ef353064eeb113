use Rattle.std.proofs.Common.{◌≡◌, ◌-◌}
use Rattle.part_tokens.specs.PartTokens.{behind_members}
use Rattle.part_tokens.proofs.find.pass_members.Given as goal

-- so many are left
abbrev pub invariant-loop-i : goal.invariant-loop-i
invariant-loop-i l = behind_members l.depth l.count l.initial.reader ≡ behind_members l.depth (l.count - l.i) l.reader
