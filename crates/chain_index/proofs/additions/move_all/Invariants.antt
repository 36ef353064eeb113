use Rattle.std.proofs.Common.{drop}
use Rattle.chain_index.proofs.MoveLemmas.{AreMoving}
use Rattle.chain_index.proofs.additions.move_all.Given as goal

abbrev pub invariant-loop-x : goal.invariant-loop-x
invariant-loop-x l = AreMoving l.number l.tx l.places l.fn.moves.entries l.moves.entries (drop l.x-index l.tx.inputs) l.count
