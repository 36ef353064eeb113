use Rattle.std.proofs.Common.{◌≡◌, ◌++◌, take}
use Rattle.std.specs.Prelude.{flat_map}
use Rattle.told_parts.specs.Lines.{next_key_text}
use Rattle.told_parts.proofs.pieces.put_each_key.Given as goal

-- the keys so far are put
abbrev pub invariant-loop-key : goal.invariant-loop-key
invariant-loop-key l = l.out.items ≡ l.fn.out.items ++ flat_map (λ key. next_key_text key.now) (take l.key-index l.keys)
