use Rattle.std.proofs.Common.{◌≡◌, [], ◌∷◌, ◌++◌, drop, map}
use Rattle.std.specs.Prelude.{flat_map}
use Rattle.big_texts.specs.Lines.{line_with_texts}
use Rattle.big_texts.proofs.lines.with_texts.Given as goal

-- the lines so far, and those that are left
abbrev pub invariant-loop-line : goal.invariant-loop-line
invariant-loop-line l =
    l.out.items ++ flat_map (λ line. line_with_texts line ++ 10 ∷ []) (map (λ line. line.now) (drop l.line-index l.lines))
    ≡ flat_map (λ line. line_with_texts line ++ 10 ∷ []) (map (λ line. line.now) l.lines)
