use Rattle.marlowe_analyse.proofs.OnceLemmas.{HeadsUpTo}
use Rattle.marlowe_analyse.proofs.once.put_heads.Given as goal

abbrev pub invariant-loop-index : goal.invariant-loop-index
invariant-loop-index l = HeadsUpTo l.fn.told.items l.heads l.index l.told.items
