use Rattle.std.proofs.Common.{◌≡◌, true, ◌++◌, drop}
use Rattle.marlowe_explain.specs.Lines.{indented}
use Rattle.marlowe_explain.proofs.indent.put_indented.Given as goal

-- the rest, behind what is put, is all
abbrev pub invariant-loop-byte : goal.invariant-loop-byte
invariant-loop-byte l = l.fn.out.items ++ indented true l.text ≡ l.out.items ++ indented l.starts (drop l.byte-index l.text)
