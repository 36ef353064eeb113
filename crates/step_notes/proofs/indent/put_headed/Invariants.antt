use Rattle.std.proofs.Common.{◌≡◌, true, ◌++◌, drop}
use Rattle.step_notes.specs.StepLines.{headed}
use Rattle.step_notes.proofs.indent.put_headed.Given as goal

-- the rest, behind what is put, is all
abbrev pub invariant-loop-byte : goal.invariant-loop-byte
invariant-loop-byte l = l.fn.out.items ++ headed l.head true l.text ≡ l.out.items ++ headed l.head l.starts (drop l.byte-index l.text)
