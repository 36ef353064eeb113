use Rattle.std.proofs.Common.{◌≡◌, ◌++◌, take}
use Rattle.std.specs.Prelude.{flat_map, codes}
use Rattle.next_lines.proofs.pieces.put_rest.Given as goal

abbrev pub invariant-loop-piece : goal.invariant-loop-piece
invariant-loop-piece g l = l.out.items ≡ l.fn.out.items ++ flat_map (λ piece. codes ", " ++ g.T.Piece.text piece) (take l.piece-index l.pieces)
